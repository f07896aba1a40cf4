use Rattle.std.proofs.Common.{List, ◌∷◌, ◌++◌, length, sym, ap, ◌∙◌}
use Rattle.std.specs.Prelude.{option_map}
use Rattle.std.proofs.lemmas.Result.{on_ok_weaker}
use Rattle.nx_checked.specs.declared.checked.CheckedExpr.{CheckedExpr}
use Rattle.nx_checked.specs.declared.checked.CheckedStmt.{CheckedStmt}
use Rattle.nx_checked.specs.Trees.{Stmt, expr_of, stmt_of}
use Rattle.nx_slot.specs.declared.op.SlotOp.{SlotOp}
use Rattle.nx_slot.specs.declared.op.SlotOp.TheVariants.{Back}
use Rattle.nx_cmean.proofs.Forms.{stmt_do, stmt_for}
use Rattle.nx_lower.specs.Bodies.{option_code, stmt_code}
use Rattle.nx_lowerexpr.specs.Sources.{source_of}
use Rattle.nx_lowering.specs.Loops.{do_parts, for_parts}
use Rattle.nx_lowering.proofs.Closing.{do_closed, for_closed}
use Rattle.nx_lowering.proofs.statement.+statements.Goals as goal

pub put_stmt-returns-in_ok-put_do-in-Do : goal.put_stmt-returns-in_ok-put_do-in-Do
put_stmt-returns-in_ok-put_do-in-Do t c =
    let s = source_of c.args.program.now in let n = c.args.n in let old = c.args.code.now in
    let a = c.in-Do.a in let e = c.in-Do.c in
    let x = c.get-in-Do.result.now in let y = c.get-in-Do-2.result.now in
    let parts = do_parts s n (stmt_of x) (expr_of y) in
    c.close-in-Do.ensures parts old (Back 0) (c.in_ok-put_do-in-Do.ensures ∙ ap (λ (l : List SlotOp). parts ++ l) c.in_ok-put-in-Do.ensures) c.len-end-in-Do.ensures
    ∙ ap (λ (x : CheckedStmt). do_parts s n (stmt_of x) (expr_of y) ++ Back (length (do_parts s n (stmt_of x) (expr_of y))) ∷ old) c.get-in-Do.ensures
    ∙ ap (λ (y : CheckedExpr). do_parts s n (stmt_of a) (expr_of y) ++ Back (length (do_parts s n (stmt_of a) (expr_of y))) ∷ old) c.get-in-Do-2.ensures
    ∙ do_closed s n c.args.on c.args.out (stmt_of a) (expr_of e) old
    ∙ ap (λ (x : Stmt). stmt_code s n c.args.on c.args.out x ++ old) (sym (ap (λ (x : CheckedStmt). stmt_of x) c.in-Do.is ∙ stmt_do a e))

pub put_stmt-returns-in_ok-put_for-in-For : goal.put_stmt-returns-in_ok-put_for-in-For
put_stmt-returns-in_ok-put_for-in-For t c =
    let s = source_of c.args.program.now in let n = c.args.n in let old = c.args.code.now in
    let a = option_map expr_of c.in-For.a in let b = option_map expr_of c.in-For.c in let third = option_map expr_of c.in-For.t in
    let parts = for_parts s n b third (stmt_of c.get-in-For.result.now) in
    let loop = c.close-in-For.ensures parts old (Back 0) (c.in_ok-put_for-in-For.ensures ∙ ap (λ (l : List SlotOp). parts ++ l) c.in_ok-put-in-For.ensures) c.len-end-in-For.ensures
    ∙ ap (λ (x : CheckedStmt). for_parts s n b third (stmt_of x) ++ Back (length (for_parts s n b third (stmt_of x))) ∷ old) c.get-in-For.ensures in
    on_ok_weaker c.put_option.result
    (λ e. e ∙ ap (λ (l : List SlotOp). option_code s n a ++ l) loop
    ∙ for_closed s n c.args.on c.args.out a b third (stmt_of c.in-For.b) old
    ∙ ap (λ (x : Stmt). stmt_code s n c.args.on c.args.out x ++ old) (sym (ap (λ (x : CheckedStmt). stmt_of x) c.in-For.is ∙ stmt_for c.in-For.a c.in-For.c c.in-For.t c.in-For.b)))
    c.put_option.ensures
