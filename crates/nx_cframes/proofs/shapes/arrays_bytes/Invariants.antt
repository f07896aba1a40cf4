use Rattle.std.proofs.Common.{◌≡◌, ◌≤◌, length, drop}
use Rattle.nx_checked.specs.Frames.{array_bytes}
use Rattle.nx_cframes.specs.Counts.{capped}
use Rattle.nx_cframes.proofs.shapes.arrays_bytes.Given as goal

-- The arrays from a place on are counted.
abbrev pub invariant-loop-left : goal.invariant-loop-left
invariant-loop-left l = record {
  within : l.left ≤ length l.shapes;
  counted : l.bytes ≡ capped (array_bytes (drop l.left l.shapes));
}

abbrev pub decreases-loop-left : goal.decreases-loop-left
decreases-loop-left l = l.left
