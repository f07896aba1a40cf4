use Rattle.std.proofs.Common.{◌≡◌, ◌+◌, suc, length, arith, ap, ◌∙◌}
use Rattle.nx_clevels.proofs.Rising.{at, unary_at, before_same, rises, fails_rising}
use Rattle.nx_clevels.proofs.levels.rise.Goals as goal

pub loop-level-init : goal.loop-level-init
loop-level-init g c = record {
  same = λ ts h. before_same _ _ _ _ (unary_at c.args.lower ts _ h) c.new-rest.ensures;
  fewer = omega (arith, ap length c.new-rest.ensures);
  within = c.requires.read;
  above = omega arith;
  most = c.requires.unary;
}

pub returns-in-Err-clause-gives : goal.returns-in-Err-clause-gives
returns-in-Err-clause-gives g c = λ ts h.
    let is = before_same _ _ _ _ (c.loop-level.invariant.same ts h) c.tokens.ensures in
    fails_rising c.args.lower c.in-Err.stop c.loop-level.level c.args.n ts c.tokens.result.now c.loop-level.read c.loop-level.invariant.above (omega (arith, c.loop-level-test.true)) is c.in-Err.ensures.gives

pub loop-level-preserved : goal.loop-level-preserved
loop-level-preserved g c =
    let up : c.loop-level.level + 1 ≡ suc c.loop-level.level = omega arith in
    record {
      same = λ ts h.
          let is = before_same _ _ _ _ (c.loop-level.invariant.same ts h) c.tokens.ensures in
          let next = rises c.args.lower c.loop-level.level ts c.tokens.result.now c.loop-level.read c.loop-level.invariant.above is in
          before_same _ _ _ _ (ap (λ k. at c.args.lower k ts) up ∙ next ∙ c.in-Ok.ensures.gives) c.new-rest-in-Ok.ensures;
      fewer = omega (arith, c.in-Ok.ensures.shorter, ap length c.new-rest-in-Ok.ensures, ap length c.tokens.ensures, c.loop-level.invariant.fewer);
      within = c.in-Ok.ensures.within;
      above = omega (arith, c.loop-level.invariant.above);
      most = omega (arith, c.loop-level-test.true);
    }
