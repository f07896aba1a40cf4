use Rattle.std.proofs.Common.{◌≡◌, ◌≤◌, length, suc, ◌+◌}
use Rattle.nx_grammar.specs.Reading.{loop}
use Rattle.nx_cexpr.specs.Reading.{within, has_node, operator_pick}
use Rattle.nx_coperators.proofs.operators.operators.Given as goal

abbrev pub invariant-loop-operator : goal.invariant-loop-operator
invariant-loop-operator g l = record {
  same : loop (operator_pick (within l.lower) (has_node l.lower) (suc l.lower) l.n) l.read l.rest
      ≡ loop (operator_pick (within l.lower) (has_node l.lower) (suc l.lower) l.n) l.fn.left l.tokens;
  fewer : length l.rest ≤ length l.tokens;
  within : l.read.height ≤ l.lower + 1;
}

abbrev pub decreases-loop-operator : goal.decreases-loop-operator
decreases-loop-operator g l = length l.rest
