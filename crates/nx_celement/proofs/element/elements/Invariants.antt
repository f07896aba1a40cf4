use Rattle.std.proofs.Common.{◌≡◌, ◌≤◌, length, suc, ◌+◌}
use Rattle.nx_cexpr.specs.Reading.{within, has_node, elements}
use Rattle.nx_celement.proofs.element.elements.Given as goal

abbrev pub invariant-loop-following : goal.invariant-loop-following
invariant-loop-following g l = record {
  same : elements (within l.lower) (has_node l.lower) (suc l.lower) l.read l.rest ≡ elements (within l.lower) (has_node l.lower) (suc l.lower) l.fn.first l.tokens;
  fewer : length l.rest ≤ length l.tokens;
  within : l.read.height ≤ l.lower + 1;
}

abbrev pub decreases-loop-following : goal.decreases-loop-following
decreases-loop-following g l = length l.rest
