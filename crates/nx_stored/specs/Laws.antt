-- Operations on objects, as the machine makes them.
use Rattle.nx_slot.specs.declared.op.SlotOp.{SlotOp}
use Rattle.nx_slot.specs.declared.op.SlotOp.TheVariants as op
use Rattle.nx_acted.specs.Laws.{IsDone}

-- It reads or writes an element, or makes an object.
abbrev pub IsOnObjects : SlotOp → Type 0
IsOnObjects (op.Make array) = Unit {0}
IsOnObjects (op.Fetch to o) = Unit {0}
IsOnObjects (op.Keep o from) = Unit {0}
IsOnObjects (op.Load to place w) = Unit {0}
IsOnObjects (op.Store place value w) = Unit {0}
IsOnObjects o = ⊥

abbrev pub OperationsOnObjectsAreDone : Type 0
OperationsOnObjectsAreDone = (o : SlotOp) → IsOnObjects o → IsDone o
