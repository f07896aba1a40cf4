use Rattle.std.proofs.Common.{[], ◌∷◌, ap, length, length-append, arith}
use Rattle.nx_conditions.specs.declared.token.Token.TheVariants as token
use Rattle.nx_conditions.proofs.Tokenizing.{reached_next, reached_end, reached_only, reached_stop, nil_if, not_nil}
use Rattle.nx_conditions.proofs.tokenize.tokens.Goals as goal

pub loop-rest-preserved : goal.loop-rest-preserved
loop-rest-preserved c = record {
  reached = reached_next c.args.bytes.now c.loop-rest.found c.push.new.self c.loop-rest.rest.now c.in-Ok.others.now c.after_blanks-rest-in-Ok.result.now c.in-Ok.token
      c.in-Ok.ensures.gives c.in_ok-push-in-Ok.ensures.ok c.after_blanks-rest-in-Ok.ensures.rest c.loop-rest.invariant.reached;
  few = omega (arith, ap length c.in_ok-push-in-Ok.ensures.ok, length-append c.loop-rest.found (c.in-Ok.token ∷ []), c.in-Ok.ensures.shorter, c.after_blanks-rest-in-Ok.ensures.shorter, c.loop-rest.invariant.few);
}

pub returns-in-Err-clause-only : goal.returns-in-Err-clause-only
returns-in-Err-clause-only c =
    reached_stop c.args.bytes.now c.loop-rest.found c.loop-rest.rest.now c.in-Err.stop c.in-Err.ensures.gives (not_nil c.loop-rest.rest.now c.is_empty.result c.is_empty.ensures c.loop-rest-test.true) c.loop-rest.invariant.reached

pub returns-clause-read : goal.returns-clause-read
returns-clause-read c =
    rw c.in_ok-push.ensures.ok (reached_end c.args.bytes.now c.loop-rest.found c.loop-rest.rest.now (nil_if c.loop-rest.rest.now c.is_empty.result c.is_empty.ensures c.loop-rest-test.false) c.loop-rest.invariant.reached)

pub returns-clause-only : goal.returns-clause-only
returns-clause-only c = λ ts x.
    rw c.in_ok-push.ensures.ok (reached_only c.args.bytes.now c.loop-rest.found c.loop-rest.rest.now ts (nil_if c.loop-rest.rest.now c.is_empty.result c.is_empty.ensures c.loop-rest-test.false) c.loop-rest.invariant.reached x)

pub returns-clause-few : goal.returns-clause-few
returns-clause-few c = omega (arith, ap length c.in_ok-push.ensures.ok, length-append c.loop-rest.found (token.End ∷ []), c.loop-rest.invariant.few)
