use Rattle.std.proofs.Common.{◌≡◌, ◌<◌, ◌+◌, ◌-◌, length, drop, sym, ap, ◌∙◌, arith}
use Rattle.nx_checked.specs.Frames.{values_of}
use Rattle.std.specs.Prelude.{max}
use Rattle.nx_cframes.specs.Counts.{capped, argument_values}
use Rattle.nx_cframes.proofs.Lists.{more_arguments, kernel_values, call_values}
use Rattle.nx_cframes.proofs.values.+values.Goals as goal

pub pair-returns : goal.pair-returns
pair-returns t c = c.later.ensures (values_of c.args.a.now) (values_of c.args.b.now) c.values-first.ensures c.values-second.ensures

pub either-returns : goal.either-returns
either-returns t c = c.greater.ensures (values_of c.args.a.now) (values_of c.args.b.now) c.values-first.ensures c.values-second.ensures

pub arguments-loop-left-preserved : goal.arguments-loop-left-preserved
arguments-loop-left-preserved t c =
    let at = c.loop-left.left - 1 in
    let inside : at < length c.args.xs.now = omega (arith, c.loop-left.invariant.within, c.loop-left-test.true) in
    let next : c.loop-left.left ≡ at + 1 = omega (arith, c.loop-left-test.true) in
    record {
      within = omega (arith, c.loop-left.invariant.within);
      counted =
          c.later-values_left.ensures (values_of c.index-xs-left.result) (argument_values (drop c.loop-left.left c.args.xs.now)) c.values-first.ensures c.loop-left.invariant.counted
          ∙ more_arguments c.args.xs.now at c.loop-left.left c.index-xs-left.result next inside (sym c.index-xs-left.is);
    }

pub values-returns-in-Kernel : goal.values-returns-in-Kernel
values-returns-in-Kernel t c = c.called.ensures ∙ ap (λ xs. capped (max 1 (argument_values xs))) c.as_slice.ensures ∙ ap capped (sym (kernel_values _ _)) ∙ ap (λ e. capped (values_of e)) (sym c.in-Kernel.is)

pub values-returns-in-Call : goal.values-returns-in-Call
values-returns-in-Call t c = c.called-in-Call.ensures ∙ ap (λ xs. capped (max 1 (argument_values xs))) c.as_slice-in-Call.ensures ∙ ap capped (sym (call_values _ _)) ∙ ap (λ e. capped (values_of e)) (sym c.in-Call.is)
