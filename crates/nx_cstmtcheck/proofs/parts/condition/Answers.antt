use Rattle.std.proofs.lemmas.Result.{err_from_is_err_and}
use Rattle.nx_cbody.specs.Statements.{number_rule}
use Rattle.nx_cexprcheck.specs.Code.{expression_check}
use Rattle.nx_cleaves.proofs.Given.{one_fails, one_given}
use Rattle.nx_cstmtcheck.proofs.parts.condition.Goals as goal

pub returns-in_err-c : goal.returns-in_err-c
returns-in_err-c c = let p = err_from_is_err_and c.from_residual.result c.from_residual.ensures.1 in rw (p.1, p.2) (one_fails _ number_rule c.args.line (expression_check c.args.names.now c.args.rows.now c.args.c.now) c.args.used.now c.in_err-c.ensures)

pub returns : goal.returns
returns c = one_given number_rule c.args.line (expression_check c.args.names.now c.args.rows.now c.args.c.now) c.args.used.now _ _ c.number.result c.in_ok-c.ensures c.number.ensures
