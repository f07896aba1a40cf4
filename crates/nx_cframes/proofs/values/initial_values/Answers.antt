use Rattle.std.proofs.Common.{◌≡◌, ◌<◌, ◌+◌, ◌-◌, length, drop, sym, ◌∙◌, arith}
use Rattle.nx_checked.specs.Frames.{values_of, all_initials}
use Rattle.nx_cframes.proofs.Lists.{more_initials}
use Rattle.nx_cframes.proofs.values.initial_values.Goals as goal

pub loop-left-preserved : goal.loop-left-preserved
loop-left-preserved c =
    let at = c.loop-left.left - 1 in
    let inside : at < length c.args.es.now = omega (arith, c.loop-left.invariant.within, c.loop-left-test.true) in
    let next : c.loop-left.left ≡ at + 1 = omega (arith, c.loop-left-test.true) in
    record {
      within = omega (arith, c.loop-left.invariant.within);
      counted =
          c.greater-most.ensures (values_of c.index-es-left.result) (all_initials (drop c.loop-left.left c.args.es.now)) c.values-first.ensures c.loop-left.invariant.counted
          ∙ more_initials c.args.es.now at c.loop-left.left c.index-es-left.result next inside (sym c.index-es-left.is);
    }
