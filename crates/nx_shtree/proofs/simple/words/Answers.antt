use Rattle.std.proofs.Common.{length, sym, ap, ◌∙◌, arith}
use Rattle.nx_grammar.specs.Reading.{bind}
use Rattle.nx_shtree.specs.Reading.{words_at}
use Rattle.nx_shtree.proofs.Rounds.{fails_on, word_more, word_over, closed_empty, closed_full}
use Rattle.nx_shtree.proofs.simple.words.Goals as goal

pub returns-in-Err-clause-gives : goal.returns-in-Err-clause-gives
returns-in-Err-clause-gives c =
    fails_on c.in-Err.stop _ _ _ (sym c.loop-word.invariant.same ∙ word_more c.args.limit c.loop-word.words c.in-Some.word.now c.loop-word.rest.now c.in-Some.others.now (sym c.in-Some.ensures.gives)) c.in-Err.ensures.gives

pub loop-word-preserved : goal.loop-word-preserved
loop-word-preserved c = record {
  same = sym (word_more c.args.limit c.loop-word.words c.in-Some.word.now c.loop-word.rest.now c.in-Some.others.now (sym c.in-Some.ensures.gives) ∙ ap (λ o. bind o (words_at c.args.limit)) c.in-Ok.ensures.gives) ∙ c.loop-word.invariant.same;
  fewer = omega (arith, c.in-Some.ensures.shorter, ap length c.in-Ok.ensures.same, c.loop-word.invariant.fewer);
}

pub returns-in-empty-clause-gives : goal.returns-in-empty-clause-gives
returns-in-empty-clause-gives c =
    sym c.loop-word.invariant.same ∙ word_over c.args.limit c.loop-word.words c.loop-word.rest.now (sym c.in_default.ensures.gives) ∙ closed_empty c.loop-word.words c.loop-word.rest.now (omega (arith, c.in-empty.len_below))

pub returns-clause-gives : goal.returns-clause-gives
returns-clause-gives c =
    sym c.loop-word.invariant.same ∙ word_over c.args.limit c.loop-word.words c.loop-word.rest.now (sym c.in_default.ensures.gives) ∙ closed_full c.loop-word.words c.loop-word.rest.now (omega (arith, c.in_default-rest.len_at_least))
