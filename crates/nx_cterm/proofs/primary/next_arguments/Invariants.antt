use Rattle.std.proofs.Common.{◌≡◌, ◌≤◌, length}
use Rattle.nx_grammar.specs.Reading.{loop}
use Rattle.nx_cexpr.specs.Reading.{within, comma_pick}
use Rattle.nx_cterm.proofs.primary.next_arguments.Given as goal

abbrev pub invariant-loop-others : goal.invariant-loop-others
invariant-loop-others g l = record {
  same : loop (comma_pick (within l.lower)) l.arguments l.rest ≡ loop (comma_pick (within l.lower)) l.fn.first l.tokens;
  fewer : length l.rest ≤ length l.tokens;
  within : l.arguments.height ≤ l.lower;
}

abbrev pub decreases-loop-others : goal.decreases-loop-others
decreases-loop-others g l = length l.rest
