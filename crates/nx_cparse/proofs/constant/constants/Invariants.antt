use Rattle.std.proofs.Common.{◌≡◌, ◌≤◌, length}
use Rattle.nx_cparse.specs.Commas.{others, commas}
use Rattle.nx_cparse.specs.Reading.{constant_at}
use Rattle.nx_cparse.proofs.constant.constants.Given as goal

abbrev pub invariant-loop-others : goal.invariant-loop-others
invariant-loop-others l = record {
  same : others constant_at l.items l.rest ≡ commas constant_at l.tokens;
  fewer : length l.rest ≤ length l.tokens;
}

abbrev pub decreases-loop-others : goal.decreases-loop-others
decreases-loop-others l = length l.rest
