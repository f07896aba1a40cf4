-- Calls as the kernel is told of them, and where their outputs may be written.
use Rattle.std.specs.Prelude.{◌≡◌, ℕ, ◌-◌, true, List, [], ◌∷◌, ◌++◌, length, replicate, Ok}
use Rattle.nx_base.specs.declared.access.Access.TheVariants.{Store}
use Rattle.nx_base.specs.declared.calls.Kind.{Kind}
use Rattle.nx_base.specs.declared.calls.Kind.TheVariants.{Out, Out4, Out8}
use Rattle.nx_base.specs.declared.regs.Regs.{Regs}
use Rattle.nx_base.specs.Views.{View}
use Rattle.nx_base.specs.Good.{is_good}
use Rattle.nx_base.specs.Replies.{next_word}
use Rattle.nx_base.specs.Calls.{Call, Rows}
use Rattle.nx_base.specs.Copying.{cook}
use Rattle.nx_ksys.specs.Telling.{both}
use Rattle.nx_ksys.specs.declared.cooked.Cooked.{Cooked}
use Rattle.nx_gate.specs.declared.gate.Gate.{Gate}

-- Six words: those of a call's parameters, in their order, and 0 past them.
abbrev pub six_words : List ℕ → List ℕ
six_words words = words ++ replicate (6 - length words) 0

-- The kernel is told a call: which it is by its gate, its words, and its inputs, of which there are at most two.
pub record Tells (gate : Gate) (c : Call) (told : Cooked) : Type 0 where
  pub call : told.call ≡ gate.kernel
  pub words : told.words ≡ six_words c.words
  pub inputs : told.first ∷ told.second ∷ [] ≡ both c.inputs

-- Registers and a view make a call, of which the kernel is told.
pub record IsTaken (rows : Rows) (v : View) (regs : Regs) (gate : Gate) (told : Cooked) : Type 0 where
  pub made : Call
  pub cooked : cook rows v regs ≡ Ok made
  pub tells : Tells gate made told

-- The kinds of a gate stand at a number of a call table.
abbrev pub StandsAt : Gate → Rows → ℕ → Type 0
StandsAt gate rows number = (rows number).kinds ≡ gate.kinds.items

-- The bytes that the outputs of a call with parameters of these kinds and words may have are good for storing.
abbrev pub AreGoodOutputs : View → List Kind → List ℕ → Type 0
AreGoodOutputs v (Out ∷ kinds) (at ∷ words) = (is_good v at (next_word words) Store ≡ true) × AreGoodOutputs v kinds words
AreGoodOutputs v (Out4 ∷ kinds) (at ∷ words) = (is_good v at 4 Store ≡ true) × AreGoodOutputs v kinds words
AreGoodOutputs v (Out8 ∷ kinds) (at ∷ words) = (is_good v at 8 Store ≡ true) × AreGoodOutputs v kinds words
AreGoodOutputs v (other ∷ kinds) (word ∷ words) = AreGoodOutputs v kinds words
AreGoodOutputs v kinds words = Unit {0}
