use Rattle.std.proofs.Common.{◌≡◌, ◌<◌, length, arith, sym, ◌∙◌, ap}
use Rattle.std.specs.Prelude.{Ok, Err, Some, None}
use Rattle.nx_grammar.specs.declared.kind.Kind.TheVariants.{Syntax}
use Rattle.nx_grammar.specs.Chains.{after_first}
use Rattle.nx_ctree.specs.declared.sign.Sign.TheVariants as sign
use Rattle.nx_cexpr.specs.Signs.{is_sign}
use Rattle.nx_cstmt.proofs.Signs.{Is}
use Rattle.nx_cparse.specs.Commas.{others}
use Rattle.nx_ctree.specs.Expressions.{whole}
use Rattle.nx_cexpr.specs.Signs.{Stops}
use Rattle.nx_cstmt.specs.Reading.{part_pick}
use Rattle.nx_cparse.specs.Reading.{item_at}
use Rattle.nx_cparse.proofs.FileLaws.{item_law}
use Rattle.nx_cparse.proofs.Expressions.{part_lives}
use Rattle.nx_cparse.proofs.Steps.{others_step, others_more, others_over, fails_on, closed_empty, closed_full}
use Rattle.nx_cparse.proofs.declaration.locals.Goals as goal

pub returns-in-Err-clause-gives : goal.returns-in-Err-clause-gives
returns-in-Err-clause-gives g c =
    let is : after_first (is_sign sign.Comma) c.loop-others.rest ≡ Some c.in-Some.others.now = ap (after_first (is_sign sign.Comma)) (sym c.tokens.ensures) ∙ sym c.in-Some.ensures.gives in
    fails_on c.in-Err.stop _ _ _ (sym c.loop-others.invariant.same ∙ others_step (item_at part_pick c.args.depth) (Is sign.Semicolon) (Is sign.Name) (item_law part_pick (Stops whole) part_lives c.args.depth) c.loop-others.items c.loop-others.rest c.in-Some.others.now is) c.in-Err.ensures.gives

pub loop-others-preserved : goal.loop-others-preserved
loop-others-preserved g c =
    let is : after_first (is_sign sign.Comma) c.loop-others.rest ≡ Some c.in-Some.others.now = ap (after_first (is_sign sign.Comma)) (sym c.tokens.ensures) ∙ sym c.in-Some.ensures.gives in
    record {
      same = ap (λ ts. others (item_at part_pick c.args.depth) c.add_local-in-Some.new.items ts) c.new-rest-in-Ok.ensures
          ∙ others_more (item_at part_pick c.args.depth) (Is sign.Semicolon) (Is sign.Name) (item_law part_pick (Stops whole) part_lives c.args.depth) c.loop-others.items c.add_local-in-Some.new.items c.loop-others.rest c.in-Some.others.now c.in-Ok.after.now is c.in-Ok.ensures.gives
          ∙ c.loop-others.invariant.same;
      fewer = omega (arith, c.in-Ok.ensures.shorter, c.in-Some.ensures.shorter, ap length c.new-rest-in-Ok.ensures, ap length c.tokens.ensures, c.loop-others.invariant.fewer);
    }

pub returns-in-empty-clause-gives : goal.returns-in-empty-clause-gives
returns-in-empty-clause-gives g c =
    let is : after_first (is_sign sign.Comma) c.loop-others.rest ≡ None = ap (after_first (is_sign sign.Comma)) (sym c.tokens.ensures) ∙ sym c.in_default.ensures.gives in
    let short : length c.loop-others.rest < 1 = omega (arith, c.in-empty.len_below, ap length c.tokens-2.ensures) in
    sym c.loop-others.invariant.same ∙ others_over (item_at part_pick c.args.depth) (Is sign.Semicolon) (Is sign.Name) (item_law part_pick (Stops whole) part_lives c.args.depth) c.loop-others.items c.loop-others.rest is ∙ closed_empty c.loop-others.items c.loop-others.rest short ∙ ap (λ ts. Err (Syntax, ts)) (sym c.tokens-in-empty.ensures)

pub returns-clause-gives : goal.returns-clause-gives
returns-clause-gives g c =
    let is : after_first (is_sign sign.Comma) c.loop-others.rest ≡ None = ap (after_first (is_sign sign.Comma)) (sym c.tokens.ensures) ∙ sym c.in_default.ensures.gives in
    let full : 0 < length c.loop-others.rest = omega (arith, c.in_default-tokens.len_at_least, ap length c.tokens-2.ensures) in
    sym c.loop-others.invariant.same ∙ others_over (item_at part_pick c.args.depth) (Is sign.Semicolon) (Is sign.Name) (item_law part_pick (Stops whole) part_lives c.args.depth) c.loop-others.items c.loop-others.rest is ∙ closed_full c.loop-others.items c.loop-others.rest full ∙ ap (λ ts. Ok (c.loop-others.items, ts)) (sym c.tokens-2.ensures)
