-- What a step of the code answers, and what one of the definition.
use Rattle.std.specs.Prelude.{◌≡◌, ℕ, List, [], ◌∷◌, Option, Some}
use Rattle.nx_base.specs.Calls.{Call, AreInputs}
use Rattle.nx_base.specs.declared.calls.KCall.{KCall}
use Rattle.nx_ksys.specs.declared.cooked.Cooked.{Cooked}
use Rattle.nx_ksys.specs.Telling.{both}
use Rattle.nx_ksys.specs.TableLaws.{kinds_in}
use Rattle.nx_shrun.specs.AbstractRuns.{Answer, Next, Asks, Ends, Wrong, Both}
use Rattle.nx_guests.specs.declared.turn.Turn.{Turn}
use Rattle.nx_guests.specs.declared.turn.Turn.TheVariants as turn

abbrev pub both_of : {G T : Type 0} → G → T → Both G T
both_of g t = record { globals = g; thread = t }

-- The kernel is told a call: which of its calls stands at the number, the words, and the inputs, which are those of its row.
pub record Tells (which : ℕ → Option KCall) (c : Call) (told : Cooked) : Type 0 where
  pub call : told.call ≡ which c.number
  pub words : told.words ≡ c.words
  pub inputs : told.first ∷ told.second ∷ [] ≡ both c.inputs
  pub formed : AreInputs (kinds_in (which c.number)) c.words c.inputs

-- The call that was made, where the definition makes one and leaves the same.
pub record Makes {G T W : Type 0} (which : ℕ → Option KCall) (told : Cooked) (g : G) (t : T) (a : Answer G T W) : Type 0 where
  pub call : Call
  pub asks : a ≡ Asks call g t
  pub tells : Tells which call told

-- The code answers as the definition, and leaves the globals and the thread that it leaves.
abbrev pub IsTold : {F G T W : Type 0} → (ℕ → Option KCall) → (F → W) → Turn F → Cooked → G → T → Answer G T W → Type 0
IsTold which fault_of turn.Next told g t a = a ≡ Next g t
IsTold which fault_of turn.Calls told g t a = Makes which told g t a
IsTold which fault_of (turn.Ends value) told g t a = a ≡ Ends value g
IsTold which fault_of (turn.Wrong why) told g t a = a ≡ Wrong (fault_of why)

-- A call has the inputs of its row.
pub record IsFormed (told : Cooked) : Type 0 where
  pub inputs : List (List ℕ)
  pub tells : told.first ∷ told.second ∷ [] ≡ both inputs
  pub formed : AreInputs (kinds_in told.call) told.words inputs

-- Where a call is made, it has them.
abbrev pub IsCall : {F : Type 0} → Option (Turn F) → Cooked → Type 0
IsCall (Some turn.Calls) told = IsFormed told
IsCall other told = Unit {0}
