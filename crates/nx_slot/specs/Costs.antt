-- What an operation costs: at most so many instructions are made for it.
use Rattle.std.specs.Prelude.{ℕ, ◌+◌, ◌*◌, ◌/◌, Option, Some, None, slice_get}
use Rattle.nx_slot.specs.declared.op.SlotOp.{SlotOp}
use Rattle.nx_slot.specs.declared.op.SlotOp.TheVariants as op
use Rattle.nx_slot.specs.declared.program.SlotArray.{SlotArray}
use Rattle.nx_slot.specs.declared.program.SlotFunction.{SlotFunction}

-- The words that an array takes.
abbrev pub words_of : Option SlotArray → ℕ
words_of None = 0
words_of (Some a) = (a.bytes + 3) / 4

-- A cell that stands far off in its frame takes three instructions to read or to write. A jump takes two. A call takes
-- the saving of eight cells, six arguments, the jump and the entry; a call of the kernel its proxy; and a return takes
-- what the caller restores, or the stub.
abbrev pub cost_of : SlotFunction → SlotOp → ℕ
cost_of g (op.Move to from) = 6
cost_of g (op.Forge to from) = 6
cost_of g (op.Apply op to left right) = 11
cost_of g (op.Change op to from) = 7
cost_of g (op.SkipUnless test left right past) = 9
cost_of g (op.Skip past) = 2
cost_of g (op.Back by) = 2
cost_of g (op.Ask number first count) = 20
cost_of g (op.Go function first count) = 30
cost_of g (op.Give value) = 20
cost_of g (op.Make array) = 3 * words_of (slice_get g.arrays array) + 6
cost_of g (op.Local to array) = 6
cost_of g (op.Static to object) = 5
cost_of g (op.Entry to function) = 5
cost_of g (op.Fetch to object) = 5
cost_of g (op.Keep object from) = 5
cost_of g (op.Index to base index width) = 11
cost_of g (op.Load to place width) = 7
cost_of g (op.Store place value width) = 7

-- The entry of a thread's first function.
abbrev pub first_entry : ℕ
first_entry = 14
