use Rattle.std.proofs.Common.{◌≡◌, ◌≤◌, ◌+◌, ◌-◌, List, length, suc}
use Rattle.std.specs.Prelude.{Ok}
use Rattle.nx_grammar.specs.Reading.{dispatch}
use Rattle.nx_ctree.specs.declared.sign.Signed.{Signed}
use Rattle.nx_cexpr.specs.Reading.{within, has_node, unary_pick}
use Rattle.nx_clevels.proofs.Rising.{at}
use Rattle.nx_clevels.proofs.levels.rise.Given as goal

abbrev pub invariant-loop-level : goal.invariant-loop-level
invariant-loop-level g l = record {
  same : (ts : List Signed) → dispatch (unary_pick (within l.lower) (has_node l.lower) (suc l.lower)) ts ≡ Ok (l.fn.read, l.tokens) → at l.lower l.level ts ≡ Ok (l.read, l.rest);
  fewer : length l.rest ≤ length l.tokens;
  within : l.read.height ≤ l.lower + 1;
  above : 1 ≤ l.level;
  most : l.level ≤ l.n;
}

abbrev pub decreases-loop-level : goal.decreases-loop-level
decreases-loop-level g l = l.n - l.level
