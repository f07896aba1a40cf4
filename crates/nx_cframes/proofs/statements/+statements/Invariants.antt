use Rattle.std.proofs.Common.{◌≡◌, ◌≤◌, ◌+◌, ◌*◌, length, drop}
use Rattle.std.specs.Prelude.{max}
use Rattle.nx_checked.specs.declared.checked.CheckedStmt.{size-CheckedStmt}
use Rattle.nx_cframes.specs.Counts.{capped, block_values}
use Rattle.nx_cframes.proofs.statements.+statements.Given as goal

-- The statements from a place on are counted.
abbrev pub invariant-block_values-loop-left : goal.invariant-block_values-loop-left
invariant-block_values-loop-left l = record {
  within : l.left ≤ length l.ss;
  counted : l.most ≡ capped (block_values (drop l.left l.ss));
}

abbrev pub decreases-block_values-loop-left : goal.decreases-block_values-loop-left
decreases-block_values-loop-left l = l.left

-- How deep the trees are, and how far a function is from the next that goes down.
abbrev pub decreases-statement : goal.decreases-statement
decreases-statement l = 4 * size-CheckedStmt l.s.now

abbrev pub decreases-tested : goal.decreases-tested
decreases-tested l = 4 * size-CheckedStmt l.a.now + 1

abbrev pub decreases-done : goal.decreases-done
decreases-done l = 4 * size-CheckedStmt l.a.now + 1

abbrev pub decreases-turned : goal.decreases-turned
decreases-turned l = 4 * size-CheckedStmt l.a.now + 1

abbrev pub decreases-looped : goal.decreases-looped
decreases-looped l = 4 * size-CheckedStmt l.a.now + 2

abbrev pub decreases-both : goal.decreases-both
decreases-both l = 4 * max (size-CheckedStmt l.a.now) (size-CheckedStmt l.b.now) + 1

abbrev pub decreases-branched : goal.decreases-branched
decreases-branched l = 4 * max (size-CheckedStmt l.a.now) (size-CheckedStmt l.b.now) + 2

abbrev pub decreases-block_values : goal.decreases-block_values
decreases-block_values l = 4 * goal.size-block_values l + 1
