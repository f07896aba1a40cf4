-- What the machine does where slot code takes a step.
use Rattle.std.specs.Prelude.{◌≡◌, ℕ, ◌+◌, ◌^◌, ◌<◌, ◌≤◌, List, [], ◌∷◌, length, Some, slice_get}
use Rattle.nx_base.specs.declared.regs.Regs.{Regs}
use Rattle.nx_base.specs.Calls.{Call}
use Rattle.nx_base.specs.Registers.{reg, with_reg}
use Rattle.nx_base.specs.Views.{View}
use Rattle.nx_rv.specs.Execution as execution
use Rattle.nx_rv.specs.Execution.{stretch}
use Rattle.nx_slot.specs.Objects.{Value, Int, Object, object_of}
use Rattle.nx_slot.specs.Calls.{words_of, call_inputs, outputs_of}
use Rattle.nx_slot.specs.Meaning.{SlotFrame, SlotTurn, Goes, Requests, Finishes, Overflows, Fails, put}
use Rattle.nx_shown.specs.Bytes.{Bytes}
use Rattle.nx_shown.specs.Places.{Sees, Only}
use Rattle.nx_linked.specs.Linked.{Program}
use Rattle.nx_linked.specs.Meant.{Bases, size_of, IsIn, Means, AreShown, IsWord, Leaves}
use Rattle.nx_linked.specs.Standing.{IsActive}

-- A stretch of so many instructions leads to another state, or to a call.
abbrev pub LeadsTo : ℕ → Regs → View → Regs → View → Type 0
LeadsTo n r v s w = (k : ℕ) → stretch (k + n) r v ≡ stretch k s w

abbrev pub Reaches : ℕ → Regs → View → Regs → View → Type 0
Reaches n r v s w = (k : ℕ) → stretch (k + n) r v ≡ record { regs = s; view = w; left = k; halt = execution.Call }

-- One instruction or more, and at most n, lead on to a state of slot code.
pub record Went (c : Program) (n : ℕ) (r : Regs) (v : View) (os : List Object) (f : SlotFrame) (fs : List SlotFrame) : Type 0 where
  pub regs : Regs
  pub view : View
  pub count : ℕ
  pub leads : LeadsTo count r v regs view
  pub few : count ≤ n
  pub some : 1 ≤ count
  pub only : Only c.place v view
  pub active : IsActive c os f fs regs view

-- The same objects, with other bytes.
pub record SameShape (os new : List Object) : Type 0 where
  pub count : length new ≡ length os
  pub widths : (o : ℕ) → (object_of new o).width ≡ (object_of os o).width
  pub sizes : (o : ℕ) → size_of new o ≡ size_of os o

-- A call is reached, with the words of its arguments, over memory that shows the objects. After each reply, over each view
-- that shows the frames' words as they are and objects of the same shape, at most four instructions lead on.
pub record Asked (c : Program) (n : ℕ) (r : Regs) (v : View) (call : Call) (outputs : List Value) (os : List Object) (f : SlotFrame) (fs : List SlotFrame) : Type 0 where
  pub regs : Regs
  pub view : View
  pub count : ℕ
  pub reaches : Reaches count r v regs view
  pub few : count + 4 ≤ n
  pub only : Only c.place v view
  pub arguments : List Value
  pub words : call.words ≡ words_of arguments
  pub inputs : call_inputs (c.code.rows call.number) os arguments ≡ Some call.inputs
  pub outputs_are : outputs ≡ outputs_of (c.code.rows call.number).kinds arguments
  pub number : reg regs 10 ≡ call.number
  pub some : 1 ≤ call.number
  pub base : Bases
  pub sp : ℕ
  pub bytes : Bytes
  pub sees : Sees c.place view bytes
  pub arguments_are : (j : ℕ) (x : Value) → slice_get arguments j ≡ Some x → Means c base os x (reg regs (11 + j))
  pub shown : AreShown c base os bytes
  pub inside : (a : ℕ) → IsWord c (f ∷ fs) sp a → (c.place.low ≤ a) × (a < c.place.top)
  pub off : (o a : ℕ) → IsIn base os o a → IsWord c (f ∷ fs) sp a → ⊥
  pub on : (value : ℕ) (new : List Object) (w : View) (d : Bytes) → value < 2 ^ 32 → SameShape os new → Sees c.place w d → AreShown c base new d → ((a : ℕ) → IsWord c (f ∷ fs) sp a → d a ≡ bytes a)
      → Went c 4 (with_reg regs 10 value) w new (record f { cells = put f.cells f.wants (Int value) }) fs

-- The call is reached that ends the thread, with its value.
pub record Ended (c : Program) (n value : ℕ) (r : Regs) (v : View) (os : List Object) : Type 0 where
  pub regs : Regs
  pub view : View
  pub count : ℕ
  pub reaches : Reaches count r v regs view
  pub few : count ≤ n
  pub only : Only c.place v view
  pub number : reg regs 10 ≡ c.ending
  pub value_is : reg regs 11 ≡ value
  pub small : value < 2 ^ 32
  pub leaves : Leaves c view os

-- Call 0 is reached, with the bytes that all open frames need.
pub record Full (c : Program) (n need : ℕ) (r : Regs) (v : View) : Type 0 where
  pub regs : Regs
  pub view : View
  pub count : ℕ
  pub reaches : Reaches count r v regs view
  pub few : count ≤ n
  pub only : Only c.place v view
  pub number : reg regs 10 ≡ 0
  pub need_is : reg regs 11 ≡ need

abbrev pub WentTo : Program → ℕ → Regs → View → List Object → List SlotFrame → Type 0
WentTo c n r v os [] = ⊥
WentTo c n r v os (f ∷ fs) = Went c n r v os f fs

abbrev pub AskedAt : Program → ℕ → Regs → View → Call → List Value → List Object → List SlotFrame → Type 0
AskedAt c n r v call outputs os [] = ⊥
AskedAt c n r v call outputs os (f ∷ fs) = Asked c n r v call outputs os f fs

-- At most as many instructions as a step costs do what it does. Where a step fails, nothing is said.
abbrev pub Does : Program → Regs → View → SlotTurn → Type 0
Does c r v (Goes s cost) = WentTo c cost r v s.objects s.frames
Does c r v (Requests call outputs s cost) = AskedAt c cost r v call outputs s.objects s.frames
Does c r v (Finishes n os cost) = Ended c cost n r v os
Does c r v (Overflows need cost) = Full c cost need r v
Does c r v (Fails fault) = Unit {0}
