use Rattle.std.proofs.Common.{◌≡◌, length, true, false, arith, sym, ◌∙◌, ap}
use Rattle.std.specs.Prelude.{Ok}
use Rattle.nx_grammar.specs.Reading.{loop, bind, seq}
use Rattle.nx_ctree.specs.declared.sign.Sign.TheVariants.{CloseBrace}
use Rattle.nx_cexpr.specs.Signs.{is_sign}
use Rattle.nx_cstmt.specs.Lists.{more_pick, is_over, add}
use Rattle.nx_cstmt.specs.Reading.{part_pick, stmt_pick, stmt_at}
use Rattle.nx_cstmt.proofs.Steps.{stmts_go, stmts_end, fails_on}
use Rattle.nx_cblock.proofs.list.listed.Goals as goal

pub returns-in-Err-clause-gives : goal.returns-in-Err-clause-gives
returns-in-Err-clause-gives g c =
    let over : is_over (is_sign CloseBrace) c.loop-items.rest ≡ false = cc in
    let goes = stmts_go c.args.depth c.args.in_loop c.loop-items.items c.loop-items.rest over in
    fails_on c.in-Err.stop _ _ _ (sym c.loop-items.invariant.same ∙ goes ∙ ap (λ ts. bind (seq (stmt_at part_pick c.args.depth c.args.in_loop) (add c.loop-items.items) ts) (loop (more_pick (is_sign CloseBrace) (stmt_pick part_pick c.args.depth c.args.in_loop)))) (sym c.tokens-in-loop-items.ensures)) c.in-Err.ensures.gives

pub loop-items-preserved : goal.loop-items-preserved
loop-items-preserved g c =
    let pick = more_pick (is_sign CloseBrace) (stmt_pick part_pick c.args.depth c.args.in_loop) in
    let over : is_over (is_sign CloseBrace) c.loop-items.rest ≡ false = cc in
    let goes = stmts_go c.args.depth c.args.in_loop c.loop-items.items c.loop-items.rest over in
    record {
      same = ap (λ ts. loop pick c.add_statement.new.items ts) c.new-rest-in-Ok.ensures
          ∙ sym (goes ∙ ap (λ ts. bind (seq (stmt_at part_pick c.args.depth c.args.in_loop) (add c.loop-items.items) ts) (loop pick)) (sym c.tokens-in-loop-items.ensures) ∙ ap (λ o. bind o (loop pick)) c.in-Ok.ensures.gives)
          ∙ c.loop-items.invariant.same;
      fewer = omega (arith, c.in-Ok.ensures.shorter, ap length c.new-rest-in-Ok.ensures, ap length c.tokens-in-loop-items.ensures, c.loop-items.invariant.fewer);
    }

pub returns-clause-gives : goal.returns-clause-gives
returns-clause-gives g c =
    let over : is_over (is_sign CloseBrace) c.loop-items.rest ≡ true = cc in
    sym c.loop-items.invariant.same ∙ stmts_end c.args.depth c.args.in_loop c.loop-items.items c.loop-items.rest over ∙ ap (λ ts. Ok (c.loop-items.items, ts)) (sym c.tokens-2.ensures)
