use Rattle.std.proofs.Common.{◌≡◌, length, true, false, arith, sym, ◌∙◌, ap}
use Rattle.std.specs.Prelude.{Ok}
use Rattle.nx_grammar.specs.Reading.{loop, bind, seq, dispatch}
use Rattle.nx_grammar.specs.Lawful.{Any}
use Rattle.nx_ctree.specs.Expressions.{whole}
use Rattle.nx_ctree.specs.declared.sign.Sign.TheVariants as sign
use Rattle.nx_cexpr.specs.Signs.{is_sign, Stops}
use Rattle.nx_cstmt.specs.Lists.{more_pick, is_over, add}
use Rattle.nx_cstmt.proofs.Signs.{Is}
use Rattle.nx_cstmt.proofs.Lists.{list_step, list_ends}
use Rattle.nx_cstmt.specs.Reading.{part_pick}
use Rattle.nx_cparse.specs.Reading.{external_pick}
use Rattle.nx_cparse.proofs.Expressions.{part_lives}
use Rattle.nx_cparse.proofs.FileLaws.{externals_rounds, external_ones}
use Rattle.nx_cparse.proofs.Steps.{fails_on}
use Rattle.nx_cparse.proofs.external.externals.Goals as goal

pub returns-in-Err-clause-gives : goal.returns-in-Err-clause-gives
returns-in-Err-clause-gives g c =
    let over : is_over (is_sign sign.End) c.loop-alloc.rest ≡ false = cc in
    let goes = list_step (is_sign sign.End) (external_pick part_pick c.args.depth) (Is sign.End) Any (externals_rounds part_pick (Stops whole) part_lives c.args.depth) (external_ones part_pick (Stops whole) part_lives c.args.depth).passes c.loop-alloc.items c.loop-alloc.rest over in
    fails_on c.in-Err.stop _ _ _ (sym c.loop-alloc.invariant.same ∙ goes ∙ ap (λ ts. bind (seq (dispatch (external_pick part_pick c.args.depth)) (add c.loop-alloc.items) ts) (loop (more_pick (is_sign sign.End) (external_pick part_pick c.args.depth)))) (sym c.tokens-in-loop-alloc.ensures)) c.in-Err.ensures.gives

pub loop-alloc-preserved : goal.loop-alloc-preserved
loop-alloc-preserved g c =
    let pick = more_pick (is_sign sign.End) (external_pick part_pick c.args.depth) in
    let over : is_over (is_sign sign.End) c.loop-alloc.rest ≡ false = cc in
    let goes = list_step (is_sign sign.End) (external_pick part_pick c.args.depth) (Is sign.End) Any (externals_rounds part_pick (Stops whole) part_lives c.args.depth) (external_ones part_pick (Stops whole) part_lives c.args.depth).passes c.loop-alloc.items c.loop-alloc.rest over in
    record {
      same = ap (λ ts. loop pick c.add_external.new.items ts) c.new-rest-in-Ok.ensures
          ∙ sym (goes ∙ ap (λ ts. bind (seq (dispatch (external_pick part_pick c.args.depth)) (add c.loop-alloc.items) ts) (loop pick)) (sym c.tokens-in-loop-alloc.ensures) ∙ ap (λ o. bind o (loop pick)) c.in-Ok.ensures.gives)
          ∙ c.loop-alloc.invariant.same;
      fewer = omega (arith, c.in-Ok.ensures.shorter, ap length c.new-rest-in-Ok.ensures, ap length c.tokens-in-loop-alloc.ensures, c.loop-alloc.invariant.fewer);
    }

pub returns-clause-gives : goal.returns-clause-gives
returns-clause-gives g c =
    let over : is_over (is_sign sign.End) c.loop-alloc.rest ≡ true = cc in
    sym c.loop-alloc.invariant.same ∙ list_ends (is_sign sign.End) (external_pick part_pick c.args.depth) (Is sign.End) Any (externals_rounds part_pick (Stops whole) part_lives c.args.depth) c.loop-alloc.items c.loop-alloc.rest over ∙ ap (λ ts. Ok (c.loop-alloc.items, ts)) (sym c.tokens-2.ensures)
