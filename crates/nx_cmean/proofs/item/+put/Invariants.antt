use Rattle.std.proofs.Common.{◌≡◌, ◌≤◌, length, take}
use Rattle.nx_checked.specs.Trees.{args_of}
use Rattle.nx_cmean.specs.Items.{all_then}
use Rattle.nx_cmean.specs.Shape.{items_of}
use Rattle.nx_cmean.proofs.item.+put.Given as goal

-- the arguments that are left, before what stands there, are all of them before what stood there
abbrev pub invariant-put_all-loop-left : goal.invariant-put_all-loop-left
invariant-put_all-loop-left l = record {
  within : l.left ≤ length l.xs;
  rest : all_then (args_of (take l.left l.xs)) (items_of l.todo) ≡ all_then (args_of l.xs) (items_of l.fn.todo);
}

abbrev pub decreases-put_all-loop-left : goal.decreases-put_all-loop-left
decreases-put_all-loop-left l = l.left
