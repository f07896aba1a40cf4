use Rattle.std.proofs.Common.{◌≡◌, length}
use Rattle.nx_cmean.specs.Items.{after_loop}
use Rattle.nx_cmean.specs.Shape.{items_of}
use Rattle.nx_cmean.proofs.item.leave_loop.Given as goal

abbrev pub invariant-loop-item : goal.invariant-loop-item
invariant-loop-item l = after_loop (items_of l.todo) ≡ after_loop (items_of l.fn.todo)

abbrev pub decreases-loop-item : goal.decreases-loop-item
decreases-loop-item l = length l.todo
