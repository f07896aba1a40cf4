-- Operations on cells, as the machine makes them.
use Rattle.std.specs.Prelude.{◌≡◌, List, Some, slice_get}
use Rattle.nx_base.specs.declared.regs.Regs.{Regs}
use Rattle.nx_base.specs.Views.{View}
use Rattle.nx_slot.specs.declared.op.SlotOp.{SlotOp}
use Rattle.nx_slot.specs.declared.op.SlotOp.TheVariants as op
use Rattle.nx_slot.specs.Objects.{Object}
use Rattle.nx_slot.specs.Costs.{cost_of}
use Rattle.nx_slot.specs.Meaning.{SlotFrame, act}
use Rattle.nx_linked.specs.Linked.{Program, IsLinked}
use Rattle.nx_linked.specs.Standing.{function_in, IsActive}
use Rattle.nx_linked.specs.Doing.{Does}

-- What an operation does, where the innermost call stands at it.
abbrev pub IsDone : SlotOp → Type 0
IsDone o = (c : Program) (os : List Object) (f : SlotFrame) (fs : List SlotFrame) (r : Regs) (v : View) → IsLinked c → slice_get (function_in c f.function).ops f.place ≡ Some o → IsActive c os f fs r v
    → Does c r v (act c.code fs os (function_in c f.function) f (cost_of (function_in c f.function) o) o)

-- It moves or makes a value, jumps, or makes an address.
abbrev pub IsOnCells : SlotOp → Type 0
IsOnCells (op.Move to from) = Unit {0}
IsOnCells (op.Forge to from) = Unit {0}
IsOnCells (op.Apply o to left right) = Unit {0}
IsOnCells (op.Change o to from) = Unit {0}
IsOnCells (op.SkipUnless test left right past) = Unit {0}
IsOnCells (op.Skip past) = Unit {0}
IsOnCells (op.Back by) = Unit {0}
IsOnCells (op.Local to array) = Unit {0}
IsOnCells (op.Static to o) = Unit {0}
IsOnCells (op.Entry to function) = Unit {0}
IsOnCells (op.Index to base index w) = Unit {0}
IsOnCells o = ⊥

abbrev pub OperationsOnCellsAreDone : Type 0
OperationsOnCellsAreDone = (o : SlotOp) → IsOnCells o → IsDone o
