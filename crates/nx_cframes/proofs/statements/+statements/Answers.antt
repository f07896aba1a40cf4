use Rattle.std.proofs.Common.{◌≡◌, ◌<◌, ◌+◌, ◌-◌, length, drop, sym, ◌∙◌, arith}
use Rattle.nx_checked.specs.Frames.{values_in}
use Rattle.nx_cframes.specs.Counts.{block_values}
use Rattle.nx_cframes.proofs.Lists.{more_statements}
use Rattle.nx_cframes.proofs.statements.+statements.Goals as goal

pub block_values-loop-left-preserved : goal.block_values-loop-left-preserved
block_values-loop-left-preserved t c =
    let at = c.loop-left.left - 1 in
    let inside : at < length c.args.ss.now = omega (arith, c.loop-left.invariant.within, c.loop-left-test.true) in
    let next : c.loop-left.left ≡ at + 1 = omega (arith, c.loop-left-test.true) in
    record {
      within = omega (arith, c.loop-left.invariant.within);
      counted =
          c.greater-most.ensures (values_in c.index-ss-left.result) (block_values (drop c.loop-left.left c.args.ss.now)) c.statement-first.ensures c.loop-left.invariant.counted
          ∙ more_statements c.args.ss.now at c.loop-left.left c.index-ss-left.result next inside (sym c.index-ss-left.is);
    }
