use Rattle.std.proofs.Common.{arith}
use Rattle.nx_group.proofs.LineLemmas.{next_line, line_goes_on}
use Rattle.nx_group.proofs.lines.line_at.Goals as goal
use Rattle.nx_group.proofs.lines.line_at.Goals.{then-text-at-eq10+else-left-eq0, else-text-at-eq10}

pub loop-at-preserved : goal.loop-at-preserved
loop-at-preserved c =
    elim c.if-text-at-eq10.branch [
      | then-text-at-eq10+else-left-eq0 w ↦ record {
        rest = rw (w.start-is, w.left-is) (next_line c.args.text.now c.loop-at.start c.loop-at.at c.loop-at.left _ c.loop-at-test.true w.if-text-at-eq10.true w.if-left-eq0.false c.loop-at.invariant.rest);
        within = omega (arith, w.start-is);
      }
      | else-text-at-eq10 w ↦ record {
        rest = rw (w.start-is, w.left-is) (line_goes_on c.args.text.now c.loop-at.start c.loop-at.at c.loop-at.left _ c.loop-at-test.true c.loop-at.invariant.within w.if-text-at-eq10.false c.loop-at.invariant.rest);
        within = omega (arith, w.start-is, c.loop-at.invariant.within);
      }
    ]
