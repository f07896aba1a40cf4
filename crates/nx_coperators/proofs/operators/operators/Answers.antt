use Rattle.std.proofs.Common.{◌≡◌, ◌<◌, ◌+◌, List, length, arith, suc, sym, ◌∙◌, ap, subst, Bor}
use Rattle.std.specs.Prelude.{Ok, Some, None}
use Rattle.nx_grammar.specs.Reading.{bind, loop}
use Rattle.nx_grammar.specs.Chains.{closed}
use Rattle.nx_ctree.specs.declared.sign.Signed.{Signed}
use Rattle.nx_cexpr.specs.declared.operand.Operand.{Operand}
use Rattle.nx_cexpr.specs.Answers.{Gives, operator_after}
use Rattle.nx_cexpr.specs.Reading.{within, has_node, operator_pick}
use Rattle.nx_cexpr.proofs.Steps.{fails_on}
use Rattle.nx_cexpr.proofs.Chains.{operators_closed}
use Rattle.nx_coperators.proofs.Rounds.{operators_step}
use Rattle.nx_coperators.proofs.operators.operators.Goals as goal

pub returns-in-Err-clause-gives : goal.returns-in-Err-clause-gives
returns-in-Err-clause-gives g c =
    let up : c.args.n + 1 ≡ suc c.args.n = omega arith in
    let is : operator_after (suc c.args.n) c.loop-operator.rest ≡ Some (c.in-Some.operator, c.in-Some.following.now) = ap (operator_after (suc c.args.n)) (sym c.tokens.ensures) ∙ sym (ap (λ k. operator_after k c.tokens.result.now) up) ∙ sym c.in-Some.ensures.gives in
    let goes = operators_step c.args.lower c.args.n c.loop-operator.read c.loop-operator.rest c.in-Some.following.now c.tokens-in-Some.result.now c.in-Some.operator is c.tokens-in-Some.ensures in
    fails_on c.in-Err.stop _ _ _ (sym c.loop-operator.invariant.same ∙ goes) c.in-Err.ensures.gives

pub loop-operator-preserved : goal.loop-operator-preserved
loop-operator-preserved g c =
    let up : c.args.n + 1 ≡ suc c.args.n = omega arith in
    let is : operator_after (suc c.args.n) c.loop-operator.rest ≡ Some (c.in-Some.operator, c.in-Some.following.now) = ap (operator_after (suc c.args.n)) (sym c.tokens.ensures) ∙ sym (ap (λ k. operator_after k c.tokens.result.now) up) ∙ sym c.in-Some.ensures.gives in
    let goes = operators_step c.args.lower c.args.n c.loop-operator.read c.loop-operator.rest c.in-Some.following.now c.tokens-in-Some.result.now c.in-Some.operator is c.tokens-in-Some.ensures in
    record {
      same = ap (λ ts. loop (operator_pick (within c.args.lower) (has_node c.args.lower) (suc c.args.lower) c.args.n) c.right.new.read ts) c.new-rest-in-Ok.ensures
          ∙ sym (goes ∙ ap (λ o. bind o (loop (operator_pick (within c.args.lower) (has_node c.args.lower) (suc c.args.lower) c.args.n))) c.in-Ok.ensures.gives)
          ∙ c.loop-operator.invariant.same;
      fewer = omega (arith, c.in-Ok.ensures.shorter, c.in-Some.ensures.shorter, ap length c.new-rest-in-Ok.ensures, ap length c.tokens.ensures, c.loop-operator.invariant.fewer);
      within = c.in-Ok.ensures.within;
    }

pub returns-clause-gives : goal.returns-clause-gives
returns-clause-gives g c =
    let up : c.args.n + 1 ≡ suc c.args.n = omega arith in
    let is : operator_after (suc c.args.n) c.loop-operator.rest ≡ None = ap (operator_after (suc c.args.n)) (sym c.tokens.ensures) ∙ sym (ap (λ k. operator_after k c.tokens.result.now) up) ∙ sym c.in_default.ensures.gives in
    let over = sym c.loop-operator.invariant.same ∙ operators_closed c.args.lower c.args.n c.loop-operator.read c.loop-operator.rest is ∙ ap (λ ts. closed c.loop-operator.read ts) (sym c.tokens-2.ensures) in
    subst (λ o. Gives {X = Operand × Bor (List Signed)} {Y = Operand} (λ x. (x.0, x.1.now)) c.closed.result o) (sym over) c.closed.ensures.gives
