-- An operation costs an instruction at least, and few at most.
use Rattle.std.proofs.Common.{arith}
use Rattle.nx_slot.specs.declared.op.SlotOp.TheVariants as op
use Rattle.nx_slot.specs.Laws.{CostsLittle}

pub little : CostsLittle
little g (op.Move to from) = (omega arith, omega arith)
little g (op.Forge to from) = (omega arith, omega arith)
little g (op.Apply o to left right) = (omega arith, omega arith)
little g (op.Change o to from) = (omega arith, omega arith)
little g (op.SkipUnless test left right past) = (omega arith, omega arith)
little g (op.Skip past) = (omega arith, omega arith)
little g (op.Back by) = (omega arith, omega arith)
little g (op.Ask number first count) = (omega arith, omega arith)
little g (op.Go function first count) = (omega arith, omega arith)
little g (op.Give value) = (omega arith, omega arith)
little g (op.Make array) = (omega arith, omega arith)
little g (op.Local to array) = (omega arith, omega arith)
little g (op.Static to object) = (omega arith, omega arith)
little g (op.Entry to function) = (omega arith, omega arith)
little g (op.Fetch to object) = (omega arith, omega arith)
little g (op.Keep object from) = (omega arith, omega arith)
little g (op.Index to base index width) = (omega arith, omega arith)
little g (op.Load to place width) = (omega arith, omega arith)
little g (op.Store place value width) = (omega arith, omega arith)
