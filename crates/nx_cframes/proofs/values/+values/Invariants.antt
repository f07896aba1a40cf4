use Rattle.std.proofs.Common.{◌≡◌, ◌≤◌, ◌+◌, ◌*◌, length, drop}
use Rattle.std.specs.Prelude.{max}
use Rattle.nx_checked.specs.declared.checked.CheckedExpr.{size-CheckedExpr}
use Rattle.nx_checked.specs.declared.checked.CheckedPlace.{size-CheckedPlace}
use Rattle.nx_cframes.specs.Counts.{capped, argument_values}
use Rattle.nx_cframes.proofs.values.+values.Given as goal

-- The arguments from a place on are counted.
abbrev pub invariant-arguments-loop-left : goal.invariant-arguments-loop-left
invariant-arguments-loop-left l = record {
  within : l.left ≤ length l.xs;
  counted : l.values_left ≡ capped (argument_values (drop l.left l.xs));
}

abbrev pub decreases-arguments-loop-left : goal.decreases-arguments-loop-left
decreases-arguments-loop-left l = l.left

-- How deep the trees are, and how far a function is from the next that goes down.
abbrev pub decreases-values : goal.decreases-values
decreases-values l = 4 * size-CheckedExpr l.e.now

abbrev pub decreases-place : goal.decreases-place
decreases-place l = 4 * size-CheckedPlace l.p.now

abbrev pub decreases-pair : goal.decreases-pair
decreases-pair l = 4 * max (size-CheckedExpr l.a.now) (size-CheckedExpr l.b.now) + 1

abbrev pub decreases-either : goal.decreases-either
decreases-either l = 4 * max (size-CheckedExpr l.a.now) (size-CheckedExpr l.b.now) + 1

abbrev pub decreases-choice : goal.decreases-choice
decreases-choice l = 4 * max (size-CheckedExpr l.c.now) (max (size-CheckedExpr l.a.now) (size-CheckedExpr l.b.now)) + 2

abbrev pub decreases-after_one : goal.decreases-after_one
decreases-after_one l = 4 * size-CheckedExpr l.a.now + 1

abbrev pub decreases-stored : goal.decreases-stored
decreases-stored l = 4 * max (size-CheckedPlace l.p.now) (size-CheckedExpr l.a.now) + 1

abbrev pub decreases-stepped : goal.decreases-stepped
decreases-stepped l = 4 * size-CheckedPlace l.p.now + 1

abbrev pub decreases-arguments : goal.decreases-arguments
decreases-arguments l = 4 * goal.size-arguments l + 1

abbrev pub decreases-called : goal.decreases-called
decreases-called l = 4 * goal.size-called l + 2
