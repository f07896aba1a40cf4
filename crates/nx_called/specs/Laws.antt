-- Calls and returns, as the machine makes them.
use Rattle.nx_slot.specs.declared.op.SlotOp.{SlotOp}
use Rattle.nx_slot.specs.declared.op.SlotOp.TheVariants as op
use Rattle.nx_acted.specs.Laws.{IsDone}

abbrev pub IsCallOrReturn : SlotOp → Type 0
IsCallOrReturn (op.Ask number first count) = Unit {0}
IsCallOrReturn (op.Go function first count) = Unit {0}
IsCallOrReturn (op.Give value) = Unit {0}
IsCallOrReturn o = ⊥

abbrev pub CallsAndReturnsAreDone : Type 0
CallsAndReturnsAreDone = (o : SlotOp) → IsCallOrReturn o → IsDone o
