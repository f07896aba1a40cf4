use Rattle.std.proofs.Common.{◌≡◌, length}
use Rattle.nx_cmean.specs.Items.{next_turn}
use Rattle.nx_cmean.specs.Shape.{items_of}
use Rattle.nx_cmean.proofs.item.end_turn.Given as goal

abbrev pub invariant-loop-item : goal.invariant-loop-item
invariant-loop-item l = next_turn (items_of l.todo) ≡ next_turn (items_of l.fn.todo)

abbrev pub decreases-loop-item : goal.decreases-loop-item
decreases-loop-item l = length l.todo
