use Rattle.std.proofs.Common.{◌≡◌, sym, ◌∙◌, arith}
use Rattle.std.specs.Prelude.{None, Some}
use Rattle.nx_ctok.specs.Comments.{after_one_ignored}
use Rattle.nx_ctok.proofs.Steps.{steps_more, steps_over}
use Rattle.nx_ctok.proofs.Shortens.{ignored_shortens}
use Rattle.nx_ctok.proofs.comment.after_ignored.Goals as goal

pub loop-after-preserved : goal.loop-after-preserved
loop-after-preserved c =
    let e : after_one_ignored c.loop-after.rest.now ≡ Some c.in-Some.after.now = sym c.in-Some.ensures.gives in
    record {
      same = sym (steps_more after_one_ignored ignored_shortens c.loop-after.rest.now c.in-Some.after.now e) ∙ c.loop-after.invariant.same;
      lines = omega (arith, c.in-Some.ensures.left.lines, c.loop-after.invariant.lines);
      within = omega (arith, c.in-Some.ensures.left.less, c.loop-after.invariant.within);
    }

pub returns-clause-rest : goal.returns-clause-rest
returns-clause-rest c =
    let e : after_one_ignored c.loop-after.rest.now ≡ None = sym c.in_default.ensures.gives in
    sym (steps_over after_one_ignored c.loop-after.rest.now e) ∙ c.loop-after.invariant.same
