use Rattle.std.proofs.lemmas.Result.{err_from_is_err_and}
use Rattle.nx_cstmtcheck.specs.Code.{wanted_rule}
use Rattle.nx_cexprcheck.specs.Code.{expression_check}
use Rattle.nx_cleaves.proofs.Given.{one_fails, one_given}
use Rattle.nx_cstmtcheck.proofs.parts.there.Goals as goal

pub returns-in_err-e : goal.returns-in_err-e
returns-in_err-e c = let p = err_from_is_err_and c.from_residual.result c.from_residual.ensures.1 in rw (p.1, p.2) (one_fails _ (wanted_rule c.args.wanted) c.args.line (expression_check c.args.names.now c.args.rows.now c.args.e.now) c.args.used.now c.in_err-e.ensures)

pub returns : goal.returns
returns c = one_given (wanted_rule c.args.wanted) c.args.line (expression_check c.args.names.now c.args.rows.now c.args.e.now) c.args.used.now _ _ c.some.result c.in_ok-e.ensures c.some.ensures
