use Rattle.std.proofs.Common.{◌≡◌, List, length, arith, suc, sym, ◌∙◌, ap, subst, Bor}
use Rattle.std.specs.Prelude.{Ok, Some, None}
use Rattle.nx_grammar.specs.Reading.{bind}
use Rattle.nx_grammar.specs.Chains.{after_first, closed}
use Rattle.nx_ctree.specs.declared.sign.Sign.TheVariants as sign
use Rattle.nx_ctree.specs.declared.sign.Signed.{Signed}
use Rattle.nx_cexpr.specs.declared.operand.Element.{Element}
use Rattle.nx_cexpr.specs.Signs.{is_sign}
use Rattle.nx_cexpr.specs.Answers.{Gives}
use Rattle.nx_cexpr.specs.Reading.{within, has_node, elements}
use Rattle.nx_cexpr.proofs.Steps.{fails_on}
use Rattle.nx_cexpr.proofs.Chains.{elements_closed}
use Rattle.nx_celement.proofs.Indexes.{elements_step}
use Rattle.nx_celement.proofs.element.elements.Goals as goal

pub returns-in-Err-clause-gives : goal.returns-in-Err-clause-gives
returns-in-Err-clause-gives g c =
    let is : after_first (is_sign sign.OpenBracket) c.loop-following.rest ≡ Some c.in-Some.following.now = ap (after_first (is_sign sign.OpenBracket)) (sym c.tokens.ensures) ∙ sym c.in-Some.ensures.gives in
    let goes = elements_step c.args.lower c.loop-following.read c.loop-following.rest c.in-Some.following.now c.tokens-in-Some.result.now is c.tokens-in-Some.ensures in
    fails_on c.in-Err.stop _ _ _ (sym c.loop-following.invariant.same ∙ goes) c.in-Err.ensures.gives

pub loop-following-preserved : goal.loop-following-preserved
loop-following-preserved g c =
    let is : after_first (is_sign sign.OpenBracket) c.loop-following.rest ≡ Some c.in-Some.following.now = ap (after_first (is_sign sign.OpenBracket)) (sym c.tokens.ensures) ∙ sym c.in-Some.ensures.gives in
    let goes = elements_step c.args.lower c.loop-following.read c.loop-following.rest c.in-Some.following.now c.tokens-in-Some.result.now is c.tokens-in-Some.ensures in
    record {
      same = ap (λ ts. elements (within c.args.lower) (has_node c.args.lower) (suc c.args.lower) c.next_element.new.read ts) c.new-rest-in-Ok.ensures
          ∙ sym (goes ∙ ap (λ o. bind o (elements (within c.args.lower) (has_node c.args.lower) (suc c.args.lower))) c.in-Ok.ensures.gives)
          ∙ c.loop-following.invariant.same;
      fewer = omega (arith, c.in-Ok.ensures.shorter, c.in-Some.ensures.shorter, ap length c.new-rest-in-Ok.ensures, ap length c.tokens.ensures, c.loop-following.invariant.fewer);
      within = c.in-Ok.ensures.within;
    }

pub returns-clause-gives : goal.returns-clause-gives
returns-clause-gives g c =
    let is : after_first (is_sign sign.OpenBracket) c.loop-following.rest ≡ None = ap (after_first (is_sign sign.OpenBracket)) (sym c.tokens.ensures) ∙ sym c.in_default.ensures.gives in
    let over = sym c.loop-following.invariant.same ∙ elements_closed c.args.lower c.loop-following.read c.loop-following.rest is ∙ ap (λ ts. closed c.loop-following.read ts) (sym c.tokens-2.ensures) in
    subst (λ o. Gives {X = Element × Bor (List Signed)} {Y = Element} (λ x. (x.0, x.1.now)) c.closed.result o) (sym over) c.closed.ensures.gives
