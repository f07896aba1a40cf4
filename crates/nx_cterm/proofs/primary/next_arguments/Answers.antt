use Rattle.std.proofs.Common.{◌≡◌, List, length, arith, sym, ◌∙◌, ap, subst, Bor}
use Rattle.std.specs.Prelude.{Ok, Some, None}
use Rattle.nx_grammar.specs.Reading.{bind, loop}
use Rattle.nx_grammar.specs.Chains.{after_first, closed}
use Rattle.nx_ctree.specs.declared.sign.Sign.TheVariants as sign
use Rattle.nx_ctree.specs.declared.sign.Signed.{Signed}
use Rattle.nx_cexpr.specs.declared.operand.Arguments.{Arguments}
use Rattle.nx_cexpr.specs.Signs.{is_sign}
use Rattle.nx_cexpr.specs.Answers.{Gives}
use Rattle.nx_cexpr.specs.Reading.{within, comma_pick}
use Rattle.nx_cexpr.proofs.Steps.{fails_on}
use Rattle.nx_cexpr.proofs.Chains.{arguments_on, arguments_closed}
use Rattle.nx_cterm.proofs.primary.next_arguments.Goals as goal

pub returns-in-Err-clause-gives : goal.returns-in-Err-clause-gives
returns-in-Err-clause-gives g c =
    let is : after_first (is_sign sign.Comma) c.loop-others.rest ≡ Some c.in-Some.others.now = ap (after_first (is_sign sign.Comma)) (sym c.tokens.ensures) ∙ sym c.in-Some.ensures.gives in
    fails_on c.in-Err.stop _ _ _ (sym c.loop-others.invariant.same ∙ arguments_on c.args.lower c.loop-others.arguments c.loop-others.rest c.in-Some.others.now is) c.in-Err.ensures.gives

pub loop-others-preserved : goal.loop-others-preserved
loop-others-preserved g c =
    let is : after_first (is_sign sign.Comma) c.loop-others.rest ≡ Some c.in-Some.others.now = ap (after_first (is_sign sign.Comma)) (sym c.tokens.ensures) ∙ sym c.in-Some.ensures.gives in
    record {
      same = ap (λ ts. loop (comma_pick (within c.args.lower)) c.next_rest.new.arguments ts) c.new-rest-in-Ok.ensures
          ∙ sym (arguments_on c.args.lower c.loop-others.arguments c.loop-others.rest c.in-Some.others.now is ∙ ap (λ o. bind o (loop (comma_pick (within c.args.lower)))) c.in-Ok.ensures.gives)
          ∙ c.loop-others.invariant.same;
      fewer = omega (arith, c.in-Ok.ensures.shorter, c.in-Some.ensures.shorter, ap length c.new-rest-in-Ok.ensures, ap length c.tokens.ensures, c.loop-others.invariant.fewer);
      within = c.in-Ok.ensures.within;
    }

pub returns-clause-gives : goal.returns-clause-gives
returns-clause-gives g c =
    let is : after_first (is_sign sign.Comma) c.loop-others.rest ≡ None = ap (after_first (is_sign sign.Comma)) (sym c.tokens.ensures) ∙ sym c.in_default.ensures.gives in
    let over = sym c.loop-others.invariant.same ∙ arguments_closed c.args.lower c.loop-others.arguments c.loop-others.rest is ∙ ap (λ ts. closed c.loop-others.arguments ts) (sym c.tokens-2.ensures) in
    subst (λ o. Gives {X = Arguments × Bor (List Signed)} {Y = Arguments} (λ x. (x.0, x.1.now)) c.closed.result o) (sym over) c.closed.ensures.gives
