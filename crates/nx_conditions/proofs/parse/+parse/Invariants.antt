use Rattle.std.proofs.Common.{◌≡◌, ◌≤◌, length, ◌+◌, ◌*◌}
use Rattle.nx_grammar.specs.Reading.{loop}
use Rattle.nx_conditions.specs.Parsing.{unary_at, comparison, conjunction, and_pick, or_pick}
use Rattle.nx_conditions.proofs.parse.+parse.Given as goal

abbrev pub decreases-not_rest : goal.decreases-not_rest
decreases-not_rest l = 16 * l.depth + 9

abbrev pub decreases-group_rest : goal.decreases-group_rest
decreases-group_rest l = 16 * l.depth + 9

abbrev pub decreases-begun : goal.decreases-begun
decreases-begun l = 16 * l.depth + 10

abbrev pub decreases-unary : goal.decreases-unary
decreases-unary l = 16 * l.depth + 0

abbrev pub decreases-compare_rest : goal.decreases-compare_rest
decreases-compare_rest l = 16 * l.depth + 1

abbrev pub decreases-comparison : goal.decreases-comparison
decreases-comparison l = 16 * l.depth + 2

abbrev pub decreases-and_rest : goal.decreases-and_rest
decreases-and_rest l = 16 * l.depth + 3

abbrev pub decreases-and_chain : goal.decreases-and_chain
decreases-and_chain l = 16 * l.depth + 4

abbrev pub decreases-conjunction : goal.decreases-conjunction
decreases-conjunction l = 16 * l.depth + 5

abbrev pub decreases-or_rest : goal.decreases-or_rest
decreases-or_rest l = 16 * l.depth + 6

abbrev pub decreases-or_chain : goal.decreases-or_chain
decreases-or_chain l = 16 * l.depth + 7

abbrev pub decreases-disjunction : goal.decreases-disjunction
decreases-disjunction l = 16 * l.depth + 8

abbrev pub invariant-and_chain-loop-others : goal.invariant-and_chain-loop-others
invariant-and_chain-loop-others l = record {
  same : loop (and_pick (comparison (unary_at l.depth))) l.left l.rest ≡ loop (and_pick (comparison (unary_at l.depth))) l.fn.left l.tokens;
  fewer : length l.rest ≤ length l.tokens;
}

abbrev pub decreases-and_chain-loop-others : goal.decreases-and_chain-loop-others
decreases-and_chain-loop-others l = length l.rest

abbrev pub invariant-or_chain-loop-others : goal.invariant-or_chain-loop-others
invariant-or_chain-loop-others l = record {
  same : loop (or_pick (conjunction (comparison (unary_at l.depth)))) l.left l.rest ≡ loop (or_pick (conjunction (comparison (unary_at l.depth)))) l.fn.left l.tokens;
  fewer : length l.rest ≤ length l.tokens;
}

abbrev pub decreases-or_chain-loop-others : goal.decreases-or_chain-loop-others
decreases-or_chain-loop-others l = length l.rest
