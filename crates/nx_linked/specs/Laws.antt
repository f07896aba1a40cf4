-- What stays of a state where memory changes.
use Rattle.std.specs.Prelude.{◌≡◌, ℕ, ◌+◌, ◌<◌, ◌≤◌, List, length}
use Rattle.nx_slot.specs.Objects.{Object, object_of}
use Rattle.nx_slot.specs.Meaning.{SlotFrame, stack_need}
use Rattle.nx_shown.specs.Bytes.{Bytes}
use Rattle.nx_linked.specs.Linked.{Program}
use Rattle.nx_linked.specs.Meant.{Bases, IsIn, IsWord}
use Rattle.nx_linked.specs.Standing.{AreBelow, AreOpen, AreOwned}

-- Objects keep their addresses and widths, and more may come.
pub record Extends (base : Bases) (os : List Object) (moved : Bases) (new : List Object) : Type 0 where
  pub more : length os ≤ length new
  pub bases : (o : ℕ) → o < length os → moved o ≡ base o
  pub widths : (o : ℕ) → o < length os → (object_of new o).width ≡ (object_of os o).width

-- Waiting calls stay where their words do.
abbrev pub WaitingCallsStay : Type 0
WaitingCallsStay = (c : Program) (base : Bases) (os : List Object) (moved : Bases) (new : List Object) (fs : List SlotFrame) (sp to : ℕ) (b d : Bytes) → Extends base os moved new → ((a : ℕ) → IsWord c fs sp a → d a ≡ b a)
    → AreBelow c base os fs sp to b → AreBelow c moved new fs sp to d

-- Frames own their arrays still where no object has come to their addresses.
abbrev pub OwnersStay : Type 0
OwnersStay = (c : Program) (base : Bases) (os : List Object) (moved : Bases) (new : List Object) (fs : List SlotFrame) (sp : ℕ) → Extends base os moved new → ((o a : ℕ) → IsIn moved new o a → sp ≤ a → a < c.place.top → IsIn base os o a) → sp ≤ c.place.top
    → AreOpen c fs sp → AreOwned c base os fs sp → AreOwned c moved new fs sp

-- No object lies in a word of an open frame.
abbrev pub ObjectsLieOffWords : Type 0
ObjectsLieOffWords = (c : Program) (base : Bases) (os : List Object) (fs : List SlotFrame) (sp o a : ℕ) → AreOpen c fs sp → AreOwned c base os fs sp → IsIn base os o a → IsWord c fs sp a → ⊥

-- The waiting calls need what lies between the innermost of them and the stack's end.
abbrev pub FramesFillTheStack : Type 0
FramesFillTheStack = (c : Program) (base : Bases) (os : List Object) (fs : List SlotFrame) (sp to : ℕ) (b : Bytes) → AreBelow c base os fs sp to b → sp + stack_need c.code fs ≡ c.place.top
