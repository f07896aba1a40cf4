-- What the code of a kernel answers, and what the definition.
use Rattle.std.specs.Prelude.{◌≡◌, ℕ, Bool, true, false, List, [], ◌∷◌, Option, Some, None}
use Rattle.nx_base.specs.Calls.{Reply}
use Rattle.nx_ksys.specs.State.{KernelState}
use Rattle.nx_ksys.specs.Answers as answers
use Rattle.nx_ksys.specs.Step.{step}
use Rattle.nx_ksys.specs.Picking.{picked}
use Rattle.nx_ksys.specs.ThreadTable.{WaitingCall, ThreadRow, threads}
use Rattle.nx_ksys.specs.declared.cooked.Cooked.{Cooked}
use Rattle.nx_ksys.specs.declared.pick.Pick.{Pick}
use Rattle.nx_ksys.specs.declared.pick.Pick.TheVariants.{Run, Idle, Ended}
use Rattle.nx_guests.specs.Guests.{start_of}
use Rattle.nx_abstract.specs.declared.kernel.Row.{Row}
use Rattle.nx_abstract.specs.declared.kernel.Over.{Over}
use Rattle.nx_abstract.specs.declared.kernel.Over.TheVariants as over
use Rattle.nx_abstract.specs.declared.kernel.Effect.{Effect}
use Rattle.nx_abstract.specs.declared.kernel.Effect.TheVariants as effect

-- The group and the program of a thread that there is.
pub record IsRowOf (r : Row) (x : ThreadRow) : Type 0 where
  pub group : r.group ≡ x.group
  pub program : r.program ≡ x.program

abbrev pub IsRow : Option Row → Option ThreadRow → Type 0
IsRow None None = Unit {0}
IsRow (Some r) (Some x) = IsRowOf r x
IsRow None (Some x) = ⊥
IsRow (Some r) None = ⊥

abbrev pub effect_of : Effect → answers.Effect
effect_of effect.Stays = answers.Stays
effect_of (effect.EndsGroup group) = answers.EndsGroup group
effect_of (effect.Begins start) = answers.Begins (start_of start)

-- The choice of the definition was made.
abbrev pub IsChosen : KernelState → KernelState → Pick → List Reply → Type 0
IsChosen old new pick replies = picked old ≡ record { to = new; replies = replies; pick = pick }

-- Why no thread is chosen, if none is.
abbrev pub IsOverBy : Option Over → Pick → Type 0
IsOverBy None pick = (n : ℕ) × (pick ≡ Run n)
IsOverBy (Some over.Ended) pick = pick ≡ Ended
IsOverBy (Some over.Idle) pick = pick ≡ Idle

-- A call as the kernel is told of it, with two inputs, of which those that it hasn't are empty.
abbrev pub step_of : KernelState → ℕ → Cooked → answers.Stepped
step_of k thread told = step k thread told.call told.words (told.first ∷ told.second ∷ [])

abbrev pub IsStepped : KernelState → ℕ → Cooked → KernelState → Effect → List Reply → Type 0
IsStepped old thread told new e replies = step_of old thread told ≡ record { to = new; effect = effect_of e; replies = replies }

abbrev pub has_no_call : Option WaitingCall → Bool
has_no_call None = true
has_no_call (Some c) = false

abbrev pub is_ready_row : Option ThreadRow → Bool
is_ready_row None = false
is_ready_row (Some x) = has_no_call x.waits

-- A thread is there, and ready.
abbrev pub is_ready_at : KernelState → ℕ → Bool
is_ready_at k thread = is_ready_row (threads k thread)
