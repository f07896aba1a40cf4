use Rattle.std.proofs.Common.{◌≡◌, ◌≤◌, length, drop}
use Rattle.nx_checked.specs.Frames.{all_initials}
use Rattle.nx_cframes.specs.Counts.{capped}
use Rattle.nx_cframes.proofs.values.initial_values.Given as goal

-- Those from a place on are counted.
abbrev pub invariant-loop-left : goal.invariant-loop-left
invariant-loop-left l = record {
  within : l.left ≤ length l.es;
  counted : l.most ≡ capped (all_initials (drop l.left l.es));
}

abbrev pub decreases-loop-left : goal.decreases-loop-left
decreases-loop-left l = l.left
