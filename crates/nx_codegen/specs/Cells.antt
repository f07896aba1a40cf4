-- Operations that name cells of their function, and hand on at most six.
use Rattle.std.specs.Prelude.{ℕ, ◌+◌, ◌<◌, ◌≤◌, List, [], ◌∷◌}
use Rattle.nx_slot.specs.declared.op.Operand.{Operand}
use Rattle.nx_slot.specs.declared.op.Operand.TheVariants.{Cell, Number}
use Rattle.nx_slot.specs.declared.op.SlotOp.{SlotOp}
use Rattle.nx_slot.specs.declared.op.SlotOp.TheVariants as op
use Rattle.nx_slot.specs.declared.program.SlotFunction.{SlotFunction}

abbrev pub IsCell : SlotFunction → ℕ → Type 0
IsCell g i = i < g.locals + g.temporaries

abbrev pub IsOperand : SlotFunction → Operand → Type 0
IsOperand g (Cell i) = IsCell g i
IsOperand g (Number n) = Unit {0}

abbrev pub AreHanded : SlotFunction → ℕ → ℕ → Type 0
AreHanded g first count = (g.locals ≤ first) × (count ≤ 6) × (IsCell g first) × (first + count ≤ g.locals + g.temporaries)

abbrev pub HasCells : SlotFunction → SlotOp → Type 0
HasCells g (op.Move to from) = IsCell g to × IsOperand g from
HasCells g (op.Forge to from) = IsCell g to × IsCell g from
HasCells g (op.Apply o to left right) = IsCell g to × IsCell g left × IsOperand g right
HasCells g (op.Change o to from) = IsCell g to × IsCell g from
HasCells g (op.SkipUnless test left right past) = IsCell g left × IsOperand g right
HasCells g (op.Skip past) = Unit {0}
HasCells g (op.Back by) = Unit {0}
HasCells g (op.Ask number first count) = AreHanded g first count
HasCells g (op.Go function first count) = AreHanded g first count
HasCells g (op.Give value) = IsOperand g value
HasCells g (op.Make k) = Unit {0}
HasCells g (op.Local to k) = IsCell g to
HasCells g (op.Static to o) = IsCell g to
HasCells g (op.Entry to function) = IsCell g to
HasCells g (op.Fetch to o) = IsCell g to
HasCells g (op.Keep o from) = IsCell g from
HasCells g (op.Index to base index w) = IsCell g to × IsCell g base × IsOperand g index
HasCells g (op.Load to place w) = IsCell g to × IsCell g place
HasCells g (op.Store place value w) = IsCell g place × IsCell g value

abbrev pub AllHaveCells : SlotFunction → List SlotOp → Type 0
AllHaveCells g [] = Unit {0}
AllHaveCells g (o ∷ ops) = HasCells g o × AllHaveCells g ops
