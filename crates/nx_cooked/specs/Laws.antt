-- Calls of slot code over a view that shows its objects.
use Rattle.std.specs.Prelude.{◌≡◌, ℕ, ◌+◌, ◌≤◌, List, [], ◌∷◌, Some, Ok}
use Rattle.std.specs.List.{All}
use Rattle.nx_base.specs.declared.regs.Regs.{Regs}
use Rattle.nx_base.specs.declared.calls.Kind.{Kind}
use Rattle.nx_base.specs.ByteLists.{AreBytes}
use Rattle.nx_base.specs.Copying as view
use Rattle.nx_base.specs.Copying.{words_from}
use Rattle.nx_base.specs.Registers.{reg}
use Rattle.nx_base.specs.Replies.{output_rooms, HaveRoom}
use Rattle.nx_base.specs.Views.{View}
use Rattle.nx_slot.specs.Objects.{Value, Object, object_of}
use Rattle.nx_slot.specs.Calls as slot
use Rattle.nx_slot.specs.Calls.{outputs_of}
use Rattle.nx_shown.specs.Bytes.{Bytes}
use Rattle.nx_shown.specs.Places.{IsPlace, Sees, Only}
use Rattle.nx_linked.specs.Linked.{Program}
use Rattle.nx_linked.specs.Meant.{Bases, IsIn, Means, AreShown}
use Rattle.nx_linked.specs.Doing.{SameShape}

-- The words of arguments stand in registers from one on.
abbrev pub AreHeld : Program → Bases → List Object → Regs → ℕ → List Value → Type 0
AreHeld c base os r k [] = Unit {0}
AreHeld c base os r k (x ∷ xs) = Means c base os x (reg r k) × AreHeld c base os r (k + 1) xs

-- What slot code takes of its objects as inputs is what is taken of the view.
abbrev pub InputsAreTaken : Type 0
InputsAreTaken = (c : Program) (v : View) (b : Bytes) (base : Bases) (os : List Object) → IsPlace c.place → Sees c.place v b → AreShown c base os b
    → (r : Regs) (k i : ℕ) (kinds : List Kind) (arguments : List Value) (inputs : List (List ℕ)) → slot.inputs_of os kinds arguments ≡ Some inputs → AreHeld c base os r k arguments → view.inputs_of v i kinds (words_from r k kinds) ≡ Ok inputs

-- The same objects, with other bytes.
pub record SameKind (os new : List Object) : Type 0 where
  pub shape : SameShape os new
  pub fixed : (o : ℕ) → (object_of new o).fixed ≡ (object_of os o).fixed

-- A view shows what outputs leave of objects. Nothing but the thread's stack and the program's data has changed, and no
-- byte outside of the objects.
pub record Delivered (c : Program) (base : Bases) (old : List Object) (new : List Object) (v w : View) (b : Bytes) : Type 0 where
  pub bytes : Bytes
  pub sees : Sees c.place w bytes
  pub shown : AreShown c base new bytes
  pub only : Only c.place v w
  pub kind : SameKind old new
  pub rest : (a : ℕ) → ((o : ℕ) → IsIn base old o a → ⊥) → bytes a ≡ b a

-- Outputs that have their rooms, put into the view at the words of their pointers, are put into the objects. The words of
-- the call are the numbers of its arguments, or less.
abbrev pub AreUnder : List ℕ → List Value → Type 0
AreUnder [] [] = Unit {0}
AreUnder [] (x ∷ xs) = ⊥
AreUnder (w ∷ ws) [] = ⊥
AreUnder (w ∷ ws) (x ∷ xs) = (w ≤ slot.word_of x) × AreUnder ws xs

abbrev pub OutputsArePut : Type 0
OutputsArePut = (c : Program) (v : View) (b : Bytes) (base : Bases) (os asked : List Object) → IsPlace c.place → Sees c.place v b → AreShown c base os b → SameKind asked os
    → (r : Regs) (k : ℕ) (kinds : List Kind) (arguments : List Value) (words : List ℕ) (outputs inputs : List (List ℕ)) → slot.inputs_of asked kinds arguments ≡ Some inputs → AreHeld c base asked r k arguments → AreUnder words arguments → HaveRoom (output_rooms kinds words) outputs → All AreBytes outputs
    → Delivered c base os (slot.with_outputs os (outputs_of kinds arguments) outputs) v (view.with_outputs v kinds (words_from r k kinds) outputs) b
