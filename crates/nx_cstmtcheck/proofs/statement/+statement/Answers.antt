use Rattle.std.proofs.Common.{sym, ap, ◌∙◌}
use Rattle.std.proofs.lemmas.Result.{err_from_is_err_and}
use Rattle.nx_ctyping.specs.Checks.{one}
use Rattle.nx_cleaves.proofs.Given.{one_fails, one_given, both_first, both_second, both_given, two_fails, two_given, three_first, three_fails, three_given}
use Rattle.nx_cexprcheck.specs.Code.{expression_check}
use Rattle.nx_cbody.specs.Statements.{number_rule}
use Rattle.nx_cstmtcheck.specs.Code.{tested_rule, else_rule, do_rule, for_rule, block_rule, head_check, statement_check, statements_check}
use Rattle.nx_cstmtcheck.proofs.Answered.{empty_answered, break_answered, continue_answered, run_answered, block_answered, return_answered, if_answered, while_answered, do_answered, else_answered, for_answered}
use Rattle.nx_cstmtcheck.proofs.Statements.{left, none_done, stops, goes_on, all_done}
use Rattle.nx_cstmtcheck.proofs.statement.+statement.Goals as goal

pub check_tested-returns-in_err-c : goal.check_tested-returns-in_err-c
check_tested-returns-in_err-c t c = let p = err_from_is_err_and c.from_residual.result c.from_residual.ensures.1 in rw (p.1, p.2) (two_fails (tested_rule c.args.tested) c.args.line _ (one number_rule c.args.line (expression_check c.args.names.now c.args.rows.now c.args.c.now)) (statement_check c.args.names.now c.args.rows.now c.args.returns c.args.a.now) c.args.used.now (both_first _ (one number_rule c.args.line (expression_check c.args.names.now c.args.rows.now c.args.c.now)) (statement_check c.args.names.now c.args.rows.now c.args.returns c.args.a.now) c.args.used.now c.in_err-c.ensures))

pub check_tested-returns-in_err-a : goal.check_tested-returns-in_err-a
check_tested-returns-in_err-a t c = let p = err_from_is_err_and c.from_residual-in_err-a.result c.from_residual-in_err-a.ensures.1 in rw (p.1, p.2) (two_fails (tested_rule c.args.tested) c.args.line _ (one number_rule c.args.line (expression_check c.args.names.now c.args.rows.now c.args.c.now)) (statement_check c.args.names.now c.args.rows.now c.args.returns c.args.a.now) c.args.used.now (both_second _ (one number_rule c.args.line (expression_check c.args.names.now c.args.rows.now c.args.c.now)) (statement_check c.args.names.now c.args.rows.now c.args.returns c.args.a.now) c.args.used.now _ _ c.in_ok-c.ensures c.in_err-a.ensures))

pub check_tested-returns : goal.check_tested-returns
check_tested-returns t c = two_given (tested_rule c.args.tested) c.args.line (one number_rule c.args.line (expression_check c.args.names.now c.args.rows.now c.args.c.now)) (statement_check c.args.names.now c.args.rows.now c.args.returns c.args.a.now) c.args.used.now _ _ _ c.make_tested.result (both_given (one number_rule c.args.line (expression_check c.args.names.now c.args.rows.now c.args.c.now)) (statement_check c.args.names.now c.args.rows.now c.args.returns c.args.a.now) c.args.used.now _ _ _ _ c.in_ok-c.ensures c.in_ok-a.ensures) c.make_tested.ensures

pub check_both-returns-in_err-a : goal.check_both-returns-in_err-a
check_both-returns-in_err-a t c = let p = err_from_is_err_and c.from_residual.result c.from_residual.ensures.1 in rw (p.1, p.2) (both_first _ (statement_check c.args.names.now c.args.rows.now c.args.returns c.args.a.now) (statement_check c.args.names.now c.args.rows.now c.args.returns c.args.b.now) c.args.used.now c.in_err-a.ensures)

pub check_both-returns-in_err-b : goal.check_both-returns-in_err-b
check_both-returns-in_err-b t c = let p = err_from_is_err_and c.from_residual-in_err-b.result c.from_residual-in_err-b.ensures.1 in rw (p.1, p.2) (both_second _ (statement_check c.args.names.now c.args.rows.now c.args.returns c.args.a.now) (statement_check c.args.names.now c.args.rows.now c.args.returns c.args.b.now) c.args.used.now _ _ c.in_ok-a.ensures c.in_err-b.ensures)

pub check_both-returns : goal.check_both-returns
check_both-returns t c = both_given (statement_check c.args.names.now c.args.rows.now c.args.returns c.args.a.now) (statement_check c.args.names.now c.args.rows.now c.args.returns c.args.b.now) c.args.used.now _ _ _ _ c.in_ok-a.ensures c.in_ok-b.ensures

pub check_if_else-returns-in_err-c : goal.check_if_else-returns-in_err-c
check_if_else-returns-in_err-c t c = let p = err_from_is_err_and c.from_residual.result c.from_residual.ensures.1 in rw (p.1, p.2) (three_first _ else_rule c.args.line (one number_rule c.args.line (expression_check c.args.names.now c.args.rows.now c.args.c.now)) (statement_check c.args.names.now c.args.rows.now c.args.returns c.args.a.now) (statement_check c.args.names.now c.args.rows.now c.args.returns c.args.b.now) c.args.used.now c.in_err-c.ensures)

pub check_if_else-returns-in_err-a : goal.check_if_else-returns-in_err-a
check_if_else-returns-in_err-a t c = let p = err_from_is_err_and c.from_residual-in_err-a.result c.from_residual-in_err-a.ensures.1 in rw (p.1, p.2) (three_fails _ else_rule c.args.line (one number_rule c.args.line (expression_check c.args.names.now c.args.rows.now c.args.c.now)) (statement_check c.args.names.now c.args.rows.now c.args.returns c.args.a.now) (statement_check c.args.names.now c.args.rows.now c.args.returns c.args.b.now) c.args.used.now _ _ c.in_ok-c.ensures c.in_err-a.ensures)

pub check_if_else-returns : goal.check_if_else-returns
check_if_else-returns t c = three_given else_rule c.args.line (one number_rule c.args.line (expression_check c.args.names.now c.args.rows.now c.args.c.now)) (statement_check c.args.names.now c.args.rows.now c.args.returns c.args.a.now) (statement_check c.args.names.now c.args.rows.now c.args.returns c.args.b.now) c.args.used.now _ _ _ _ _ c.make_if_else.result c.in_ok-c.ensures c.in_ok-a.ensures c.make_if_else.ensures

pub check_do-returns-in_err-a : goal.check_do-returns-in_err-a
check_do-returns-in_err-a t c = let p = err_from_is_err_and c.from_residual.result c.from_residual.ensures.1 in rw (p.1, p.2) (two_fails do_rule c.args.line _ (statement_check c.args.names.now c.args.rows.now c.args.returns c.args.a.now) (one number_rule c.args.line (expression_check c.args.names.now c.args.rows.now c.args.c.now)) c.args.used.now (both_first _ (statement_check c.args.names.now c.args.rows.now c.args.returns c.args.a.now) (one number_rule c.args.line (expression_check c.args.names.now c.args.rows.now c.args.c.now)) c.args.used.now c.in_err-a.ensures))

pub check_do-returns-in_err-c : goal.check_do-returns-in_err-c
check_do-returns-in_err-c t c = let p = err_from_is_err_and c.from_residual-in_err-c.result c.from_residual-in_err-c.ensures.1 in rw (p.1, p.2) (two_fails do_rule c.args.line _ (statement_check c.args.names.now c.args.rows.now c.args.returns c.args.a.now) (one number_rule c.args.line (expression_check c.args.names.now c.args.rows.now c.args.c.now)) c.args.used.now (both_second _ (statement_check c.args.names.now c.args.rows.now c.args.returns c.args.a.now) (one number_rule c.args.line (expression_check c.args.names.now c.args.rows.now c.args.c.now)) c.args.used.now _ _ c.in_ok-a.ensures c.in_err-c.ensures))

pub check_do-returns : goal.check_do-returns
check_do-returns t c = two_given do_rule c.args.line (statement_check c.args.names.now c.args.rows.now c.args.returns c.args.a.now) (one number_rule c.args.line (expression_check c.args.names.now c.args.rows.now c.args.c.now)) c.args.used.now _ _ _ c.make_do.result (both_given (statement_check c.args.names.now c.args.rows.now c.args.returns c.args.a.now) (one number_rule c.args.line (expression_check c.args.names.now c.args.rows.now c.args.c.now)) c.args.used.now _ _ _ _ c.in_ok-a.ensures c.in_ok-c.ensures) c.make_do.ensures

pub check_for-returns-in_err-head : goal.check_for-returns-in_err-head
check_for-returns-in_err-head t c = let p = err_from_is_err_and c.from_residual.result c.from_residual.ensures.1 in rw (p.1, p.2) (two_fails for_rule c.args.line _ (head_check c.args.names.now c.args.rows.now c.args.line c.args.first.now c.args.test.now c.args.next.now) (statement_check c.args.names.now c.args.rows.now c.args.returns c.args.a.now) c.args.used.now (both_first _ (head_check c.args.names.now c.args.rows.now c.args.line c.args.first.now c.args.test.now c.args.next.now) (statement_check c.args.names.now c.args.rows.now c.args.returns c.args.a.now) c.args.used.now c.in_err-head.ensures))

pub check_for-returns-in_err-a : goal.check_for-returns-in_err-a
check_for-returns-in_err-a t c = let p = err_from_is_err_and c.from_residual-in_err-a.result c.from_residual-in_err-a.ensures.1 in rw (p.1, p.2) (two_fails for_rule c.args.line _ (head_check c.args.names.now c.args.rows.now c.args.line c.args.first.now c.args.test.now c.args.next.now) (statement_check c.args.names.now c.args.rows.now c.args.returns c.args.a.now) c.args.used.now (both_second _ (head_check c.args.names.now c.args.rows.now c.args.line c.args.first.now c.args.test.now c.args.next.now) (statement_check c.args.names.now c.args.rows.now c.args.returns c.args.a.now) c.args.used.now _ _ c.in_ok-head.ensures c.in_err-a.ensures))

pub check_for-returns : goal.check_for-returns
check_for-returns t c = two_given for_rule c.args.line (head_check c.args.names.now c.args.rows.now c.args.line c.args.first.now c.args.test.now c.args.next.now) (statement_check c.args.names.now c.args.rows.now c.args.returns c.args.a.now) c.args.used.now _ _ _ c.make_for.result (both_given (head_check c.args.names.now c.args.rows.now c.args.line c.args.first.now c.args.test.now c.args.next.now) (statement_check c.args.names.now c.args.rows.now c.args.returns c.args.a.now) c.args.used.now _ _ _ _ c.in_ok-head.ensures c.in_ok-a.ensures) c.make_for.ensures

pub check_block-returns-in_err-statements : goal.check_block-returns-in_err-statements
check_block-returns-in_err-statements t c = let p = err_from_is_err_and c.from_residual.result c.from_residual.ensures.1 in rw (p.1, p.2) (one_fails _ block_rule c.args.line (statements_check c.args.names.now c.args.rows.now c.args.returns c.args.statements.now) c.args.used.now c.in_err-statements.ensures)

pub check_block-returns : goal.check_block-returns
check_block-returns t c = one_given block_rule c.args.line (statements_check c.args.names.now c.args.rows.now c.args.returns c.args.statements.now) c.args.used.now _ _ c.make_block.result c.in_ok-statements.ensures c.make_block.ensures

pub check_statements-loop-statement-init : goal.check_statements-loop-statement-init
check_statements-loop-statement-init t c = ap (λ d. left c.args.names.now c.args.rows.now c.args.returns d c.args.statements.now c.args.used.now) c.new-done.ensures ∙ none_done (statements_check c.args.names.now c.args.rows.now c.args.returns c.args.statements.now c.args.used.now)

pub check_statements-returns-in_err-statement : goal.check_statements-returns-in_err-statement
check_statements-returns-in_err-statement t c = let p = err_from_is_err_and c.from_residual.result c.from_residual.ensures.1 in rw (p.1, p.2) (stops c.args.names.now c.args.rows.now c.args.returns _ c.loop-statement.done c.args.statements.now c.loop-statement.statement-index c.statement-item.result c.loop-statement.used _ c.loop-statement-test.true (sym c.statement-item.is) c.loop-statement.invariant c.in_err-statement.ensures)

pub check_statements-loop-statement-preserved : goal.check_statements-loop-statement-preserved
check_statements-loop-statement-preserved t c = goes_on c.args.names.now c.args.rows.now c.args.returns c.loop-statement.done c.push.new.self c.args.statements.now c.loop-statement.statement-index c.statement-item.result c.loop-statement.used c.check_statement.new.used c.in_ok-statement.statement _ c.loop-statement-test.true (sym c.statement-item.is) c.loop-statement.invariant c.in_ok-push.ensures.ok c.in_ok-statement.ensures

pub check_statements-returns : goal.check_statements-returns
check_statements-returns t c = all_done c.args.names.now c.args.rows.now c.args.returns c.loop-statement.done c.args.statements.now c.loop-statement.statement-index c.loop-statement.used _ c.loop-statement-test.false c.loop-statement.invariant

pub check_statement-returns-in-Empty : goal.check_statement-returns-in-Empty
check_statement-returns-in-Empty t c = empty_answered _ _ _ c.args.s.now _ c.in-Empty.is

pub check_statement-returns-in-Break : goal.check_statement-returns-in-Break
check_statement-returns-in-Break t c = break_answered _ _ _ c.args.s.now _ c.in-Break.is

pub check_statement-returns-in-Continue : goal.check_statement-returns-in-Continue
check_statement-returns-in-Continue t c = continue_answered _ _ _ c.args.s.now _ c.in-Continue.is

pub check_statement-returns-in-Expr : goal.check_statement-returns-in-Expr
check_statement-returns-in-Expr t c = run_answered _ _ _ c.args.s.now _ _ _ _ _ c.get.ensures c.in-Expr.is c.run.ensures

pub check_statement-returns-in-Block : goal.check_statement-returns-in-Block
check_statement-returns-in-Block t c = block_answered _ _ _ c.args.s.now _ _ _ _ _ (c.as_slice.ensures ∙ c.get-in-Block.ensures) c.in-Block.is c.check_block.ensures

pub check_statement-returns-in-If : goal.check_statement-returns-in-If
check_statement-returns-in-If t c = if_answered _ _ _ c.args.s.now _ _ _ _ _ _ _ c.get-in-If.ensures c.get-in-If-2.ensures c.in-If.is c.check_tested.ensures

pub check_statement-returns-in-IfElse : goal.check_statement-returns-in-IfElse
check_statement-returns-in-IfElse t c = else_answered _ _ _ c.args.s.now _ _ _ _ _ _ _ _ _ c.get-in-IfElse.ensures c.get-in-IfElse-2.ensures c.get-in-IfElse-3.ensures c.in-IfElse.is c.check_if_else.ensures

pub check_statement-returns-in-While : goal.check_statement-returns-in-While
check_statement-returns-in-While t c = while_answered _ _ _ c.args.s.now _ _ _ _ _ _ _ c.get-in-While.ensures c.get-in-While-2.ensures c.in-While.is c.check_tested-in-While.ensures

pub check_statement-returns-in-Do : goal.check_statement-returns-in-Do
check_statement-returns-in-Do t c = do_answered _ _ _ c.args.s.now _ _ _ _ _ _ _ c.get-in-Do.ensures c.get-in-Do-2.ensures c.in-Do.is c.check_do.ensures

pub check_statement-returns-in-For : goal.check_statement-returns-in-For
check_statement-returns-in-For t c = for_answered _ _ _ c.args.s.now _ _ _ _ _ _ _ _ c.get-in-For.ensures c.in-For.is c.check_for.ensures

pub check_statement-returns-in-Return : goal.check_statement-returns-in-Return
check_statement-returns-in-Return t c = return_answered _ _ _ c.args.s.now _ _ _ _ c.in-Return.is c.check_return.ensures
