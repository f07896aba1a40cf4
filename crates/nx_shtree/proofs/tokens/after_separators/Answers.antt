use Rattle.std.proofs.Common.{sym, ◌∙◌, arith}
use Rattle.nx_shtree.proofs.Rounds.{separators_more, separators_over, closed_empty, closed_full}
use Rattle.nx_shtree.proofs.tokens.after_separators.Goals as goal

pub loop-others-preserved : goal.loop-others-preserved
loop-others-preserved c = record {
  same = sym (separators_more c.loop-others.rest.now c.in-Some.others.now (sym c.in-Some.ensures.gives)) ∙ c.loop-others.invariant.same;
  fewer = omega (arith, c.in-Some.ensures.shorter, c.loop-others.invariant.fewer);
}

pub returns-in-empty-clause-gives : goal.returns-in-empty-clause-gives
returns-in-empty-clause-gives c =
    sym c.loop-others.invariant.same ∙ separators_over c.loop-others.rest.now (sym c.in_default.ensures.gives) ∙ closed_empty tt c.loop-others.rest.now (omega (arith, c.in-empty.len_below))

pub returns-in_default-rest-clause-gives : goal.returns-in_default-rest-clause-gives
returns-in_default-rest-clause-gives c =
    sym c.loop-others.invariant.same ∙ separators_over c.loop-others.rest.now (sym c.in_default.ensures.gives) ∙ closed_full tt c.loop-others.rest.now (omega (arith, c.in_default-rest.len_at_least))
