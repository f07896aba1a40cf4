use Rattle.std.proofs.Common.{ℕ, ◌≡◌, ◌<◌, ◌+◌, ◌-◌, length, List, take, sym, ap, ◌∙◌, arith}
use Rattle.nx_checked.specs.Trees.{args_of}
use Rattle.nx_cmean.specs.Items.{Item, all_then}
use Rattle.nx_cmean.specs.Shape.{items_of}
use Rattle.nx_cmean.proofs.Arguments.{all_last}
use Rattle.nx_cmean.proofs.item.+put.Goals as goal

pub put_all-loop-left-preserved : goal.put_all-loop-left-preserved
put_all-loop-left-preserved t c =
    let at = c.loop-left.left - 1 in
    let inside : at < length c.args.xs.now = omega (arith, c.loop-left.invariant.within, c.loop-left-test.true) in
    let next : c.loop-left.left ≡ at + 1 = omega (arith, c.loop-left-test.true) in
    record {
      within = omega (arith, c.loop-left.invariant.within);
      rest =
          ap (λ (k : List Item). all_then (args_of (take at c.args.xs.now)) k) c.in_ok-put_expr.ensures
          ∙ all_last c.args.xs.now at c.loop-left.left c.index-xs-left.result (items_of c.loop-left.todo) next inside (sym c.index-xs-left.is)
          ∙ c.loop-left.invariant.rest;
    }
