use Rattle.std.proofs.Common.{◌≡◌, ◌≤◌, length}
use Rattle.nx_cparse.specs.Commas.{others, commas}
use Rattle.nx_cparse.specs.Reading.{param_at}
use Rattle.nx_cparse.proofs.parameter.parameters.Given as goal

abbrev pub invariant-loop-others : goal.invariant-loop-others
invariant-loop-others l = record {
  same : others param_at l.items l.rest ≡ commas param_at l.tokens;
  fewer : length l.rest ≤ length l.tokens;
}

abbrev pub decreases-loop-others : goal.decreases-loop-others
decreases-loop-others l = length l.rest
