-- Words keep slot code, call by call.
use Rattle.std.specs.Prelude.{◌≡◌, ℕ, zero, suc, ◌+◌, ◌-◌, ◌^◌, ◌<◌, ◌≤◌, List, length, Some, slice_get}
use Rattle.nx_base.specs.declared.regs.Regs.{Regs}
use Rattle.nx_base.specs.Calls.{Call}
use Rattle.nx_base.specs.Registers.{reg, with_reg}
use Rattle.nx_base.specs.Views.{View}
use Rattle.nx_rv.specs.Execution.{stretch, Fuel}
use Rattle.nx_slot.specs.Objects.{Value, Int, Object}
use Rattle.nx_slot.specs.Calls.{words_of, call_inputs, outputs_of}
use Rattle.nx_slot.specs.Meaning.{SlotState, state, delivered, function_at}
use Rattle.nx_slot.specs.Runs.{SlotReach, Going, Requested, Finished, Overflowed, Failed, then_on, run, begun}
use Rattle.nx_codegen.specs.declared.output.Target.TheVariants.{Function}
use Rattle.nx_shown.specs.Bytes.{Bytes}
use Rattle.nx_shown.specs.Places.{Sees, Only}
use Rattle.nx_linked.specs.Linked.{Program}
use Rattle.nx_linked.specs.Meant.{Bases, IsIn, Means, AreShown, IsWord, Leaves}
use Rattle.nx_linked.specs.Doing.{Reaches, SameShape}

-- The words come to this call, in at most so many instructions, with the words of its arguments in registers, over memory
-- that shows the objects. Nothing but the thread's stack and the program's data has changed.
pub record Comes (c : Program) (r : Regs) (v : View) (call : Call) (outputs : List Value) (s : SlotState) (most : ℕ) : Type 0 where
  pub cost : ℕ
  pub regs : Regs
  pub view : View
  pub cheap : cost ≤ most
  pub reaches : Reaches cost r v regs view
  pub only : Only c.place v view
  pub arguments : List Value
  pub words : call.words ≡ words_of arguments
  pub inputs : call_inputs (c.code.rows call.number) s.objects arguments ≡ Some call.inputs
  pub outputs_are : outputs ≡ outputs_of (c.code.rows call.number).kinds arguments
  pub number : reg regs 10 ≡ call.number
  pub some : 1 ≤ call.number
  pub base : Bases
  pub sp : ℕ
  pub bytes : Bytes
  pub sees : Sees c.place view bytes
  pub arguments_are : (j : ℕ) (x : Value) → slice_get arguments j ≡ Some x → Means c base s.objects x (reg regs (11 + j))
  pub shown : AreShown c base s.objects bytes
  pub inside : (a : ℕ) → IsWord c s.frames sp a → (c.place.low ≤ a) × (a < c.place.top)
  pub off : (o a : ℕ) → IsIn base s.objects o a → IsWord c s.frames sp a → ⊥

-- They come to the call that ends the thread, with its value, and leave the objects that were there from the start.
pub record Ends (c : Program) (r : Regs) (v : View) (value : ℕ) (os : List Object) (most : ℕ) : Type 0 where
  pub cost : ℕ
  pub regs : Regs
  pub view : View
  pub cheap : cost ≤ most
  pub reaches : Reaches cost r v regs view
  pub only : Only c.place v view
  pub number : reg regs 10 ≡ c.ending
  pub value_is : reg regs 11 ≡ value
  pub small : value < 2 ^ 32
  pub leaves : Leaves c view os

-- They come to call 0, with the bytes that all open frames need.
pub record Fills (c : Program) (r : Regs) (v : View) (need most : ℕ) : Type 0 where
  pub cost : ℕ
  pub regs : Regs
  pub view : View
  pub cheap : cost ≤ most
  pub reaches : Reaches cost r v regs view
  pub only : Only c.place v view
  pub number : reg regs 10 ≡ 0
  pub need_is : reg regs 11 ≡ need

-- Any reply, over any view with the same text that shows the words of the open frames as they were, and objects of the
-- same shape with whatever bytes they then have.
abbrev pub OnReply : Program → (SlotState → Regs → View → Type 0) → SlotState → (base : Bases) (sp : ℕ) (bytes : Bytes) → Regs → Type 0
OnReply c more s base sp bytes r =
    (value : ℕ) (os : List Object) (v : View) (d : Bytes) → value < 2 ^ 32 → SameShape s.objects os → Sees c.place v d → AreShown c base os d → ((a : ℕ) → IsWord c s.frames sp a → d a ≡ bytes a)
    → more (state (delivered s.frames (Int value)) os) (with_reg r 10 value) v

-- What the words come to where slot code comes to this. Instructions that were saved earlier may be made now.
abbrev pub Follows : Program → (SlotState → Regs → View → ℕ → Type 0) → Regs → View → ℕ → SlotReach → Type 0
Follows c more r v saved (Going s cost) = Unit {0}
Follows c more r v saved (Requested call outputs s cost) =
    (m : Comes c r v call outputs s (saved + cost)) × OnReply c (λ t r w. more t r w (saved + cost - m.cost)) s m.base m.sp m.bytes m.regs
Follows c more r v saved (Finished n os cost) = Ends c r v n os (saved + cost)
Follows c more r v saved (Overflowed need cost) = Fills c r v need (saved + cost)
Follows c more r v saved (Failed fault) = Unit {0}

-- Holds where slot code goes on.
abbrev pub WhereGoing : SlotReach → Type 0 → Type 0
WhereGoing (Going s cost) P = P
WhereGoing (Requested call outputs s cost) P = Unit {0}
WhereGoing (Finished n os cost) P = Unit {0}
WhereGoing (Overflowed need cost) P = Unit {0}
WhereGoing (Failed fault) P = Unit {0}

-- Whatever number of operations is made: the words come to the same call, and to none where there is none.
pub record Goes (c : Program) (more : SlotState → Regs → View → ℕ → Type 0) (r : Regs) (v : View) (saved : ℕ) (reach : ℕ → SlotReach) : Type 0 where
  pub follows : (n : ℕ) → Follows c more r v saved (reach n)
  pub waits : (k : ℕ) → (n : ℕ) × WhereGoing (reach n) ((stretch k r v).halt ≡ Fuel)

-- Up to so many calls.
abbrev pub Keeps : Program → ℕ → SlotState → Regs → View → ℕ → Type 0
Keeps c zero s r v saved = Unit {0}
Keeps c (suc calls) s r v saved = Goes c (Keeps c calls) r v saved (λ n. run c.code n s)

-- A thread's first registers and bytes, where it begins with a function. There are the globals and the literals alone,
-- none of them in the stack.
pub record IsStart (c : Program) (f : ℕ) (arguments : List Value) (os : List Object) (r : Regs) (v : View) : Type 0 where
  pub known : f < length c.code.functions
  pub bytes : Bytes
  pub sees : Sees c.place v bytes
  pub size : length r.x ≡ 32
  pub small : (k : ℕ) → reg r k < 2 ^ 32
  pub pc_is : r.pc ≡ c.links (Function f)
  pub back : reg r 1 ≡ c.stub
  pub pointer : reg r 2 ≡ c.place.top
  pub top : reg r 3 ≡ 0
  pub low : reg r 4 ≡ c.place.low
  pub count : length arguments ≡ (function_at c.code f).params
  pub arguments_are : (j : ℕ) (x : Value) → slice_get arguments j ≡ Some x → Means c c.address os x (reg r (10 + j))
  pub shown : AreShown c c.address os bytes
  pub outside : (o a : ℕ) → IsIn c.address os o a → c.place.low ≤ a → a < c.place.top → ⊥

-- The words of a linked program keep it, over every view, from every start.
pub record KeepsProgram (c : Program) : Type 0 where
  pub keeps : (f calls : ℕ) (arguments : List Value) (os : List Object) (r : Regs) (v : View) → IsStart c f arguments os r v → Goes c (Keeps c calls) r v 0 (λ n. then_on (begun c.code f arguments os) (run c.code n))
