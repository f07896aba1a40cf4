use Rattle.std.proofs.Common.{◌≡◌, List, arith, sym, ◌∙◌, ap}
use Rattle.std.specs.Prelude.{Some, None}
use Rattle.nx_grammar.specs.Reading.{loop, bind, Out}
use Rattle.nx_grammar.specs.Chains.{after_first}
use Rattle.nx_grammar.proofs.Chains.{chain_on, chain_closed}
use Rattle.nx_conditions.specs.declared.token.Token.{Token}
use Rattle.nx_conditions.specs.declared.condition.Condition.{Condition}
use Rattle.nx_conditions.specs.declared.parse.ParseStop.{ParseStop}
use Rattle.nx_conditions.specs.declared.parse.ParseStop.TheVariants as fault
use Rattle.nx_conditions.specs.Answers.{IsParseFault}
use Rattle.nx_conditions.specs.Parsing.{is_and, is_or, and_rest, or_rest, and_pick, or_pick, comparison, conjunction, unary_at}
use Rattle.nx_conditions.proofs.Sound.{and_short_at, or_short_at}
use Rattle.nx_conditions.proofs.parse.+parse.Goals as goal

-- A fault of the first part is one of the whole.
fails_on : (e : ParseStop) (o p : Out Token Condition) (f : Condition → List Token → Out Token Condition) → p ≡ bind o f → IsParseFault e o → IsParseFault e p
fails_on fault.Memory o p f h g = tt
fails_on (fault.Fault kind at) o p f h g = h ∙ ap (λ x. bind x f) g

pub and_chain-loop-others-preserved : goal.and_chain-loop-others-preserved
and_chain-loop-others-preserved t c =
    let d = c.args.depth in
    let part = comparison (unary_at d) in
    let is : after_first is_and c.loop-others.rest.now ≡ Some c.in-Some.others.now = sym c.in-Some.ensures.gives in
    record {
      same = sym (chain_on is_and (and_rest part) (and_short_at d) c.loop-others.left c.loop-others.rest.now c.in-Some.others.now is ∙ ap (λ o. bind o (loop (and_pick part))) c.in-Ok.ensures.gives) ∙ c.loop-others.invariant.same;
      fewer = omega (arith, c.in-Ok.ensures.shorter, c.in-Some.ensures.shorter, c.loop-others.invariant.fewer);
    }

pub and_chain-returns-in-Err-clause-gives : goal.and_chain-returns-in-Err-clause-gives
and_chain-returns-in-Err-clause-gives t c =
    let d = c.args.depth in
    let part = comparison (unary_at d) in
    let is : after_first is_and c.loop-others.rest.now ≡ Some c.in-Some.others.now = sym c.in-Some.ensures.gives in
    fails_on c.in-Err.stop _ _ _ (sym c.loop-others.invariant.same ∙ chain_on is_and (and_rest part) (and_short_at d) c.loop-others.left c.loop-others.rest.now c.in-Some.others.now is) c.in-Err.ensures.gives

pub and_chain-returns-clause-gives : goal.and_chain-returns-clause-gives
and_chain-returns-clause-gives t c =
    let d = c.args.depth in
    let part = comparison (unary_at d) in
    let is : after_first is_and c.loop-others.rest.now ≡ None = sym c.in_default.ensures.gives in
    rw (sym c.loop-others.invariant.same ∙ chain_closed is_and (and_rest part) (and_short_at d) c.loop-others.left c.loop-others.rest.now is) c.closed.ensures.gives

pub or_chain-loop-others-preserved : goal.or_chain-loop-others-preserved
or_chain-loop-others-preserved t c =
    let d = c.args.depth in
    let part = conjunction (comparison (unary_at d)) in
    let is : after_first is_or c.loop-others.rest.now ≡ Some c.in-Some.others.now = sym c.in-Some.ensures.gives in
    record {
      same = sym (chain_on is_or (or_rest part) (or_short_at d) c.loop-others.left c.loop-others.rest.now c.in-Some.others.now is ∙ ap (λ o. bind o (loop (or_pick part))) c.in-Ok.ensures.gives) ∙ c.loop-others.invariant.same;
      fewer = omega (arith, c.in-Ok.ensures.shorter, c.in-Some.ensures.shorter, c.loop-others.invariant.fewer);
    }

pub or_chain-returns-in-Err-clause-gives : goal.or_chain-returns-in-Err-clause-gives
or_chain-returns-in-Err-clause-gives t c =
    let d = c.args.depth in
    let part = conjunction (comparison (unary_at d)) in
    let is : after_first is_or c.loop-others.rest.now ≡ Some c.in-Some.others.now = sym c.in-Some.ensures.gives in
    fails_on c.in-Err.stop _ _ _ (sym c.loop-others.invariant.same ∙ chain_on is_or (or_rest part) (or_short_at d) c.loop-others.left c.loop-others.rest.now c.in-Some.others.now is) c.in-Err.ensures.gives

pub or_chain-returns-clause-gives : goal.or_chain-returns-clause-gives
or_chain-returns-clause-gives t c =
    let d = c.args.depth in
    let part = conjunction (comparison (unary_at d)) in
    let is : after_first is_or c.loop-others.rest.now ≡ None = sym c.in_default.ensures.gives in
    rw (sym c.loop-others.invariant.same ∙ chain_closed is_or (or_rest part) (or_short_at d) c.loop-others.left c.loop-others.rest.now is) c.closed.ensures.gives
