use Rattle.std.proofs.lemmas.Result.{err_from_is_err_and}
use Rattle.nx_cstmtcheck.specs.Code.{return_rule, returned_check}
use Rattle.nx_cleaves.proofs.Given.{one_fails}
use Rattle.nx_ctyping.proofs.Binds.{one_on}
use Rattle.std.proofs.Common.{refl}
use Rattle.nx_cstmtcheck.proofs.parts.check_return.Goals as goal

pub returns-in_err-e : goal.returns-in_err-e
returns-in_err-e c = let p = err_from_is_err_and c.from_residual.result c.from_residual.ensures.1 in rw (p.1, p.2) (one_fails _ return_rule c.args.line (returned_check c.args.names.now c.args.rows.now c.args.returns c.args.line c.args.e.now) c.args.used.now c.in_err-e.ensures)

pub returns : goal.returns
returns c = one_on return_rule c.args.line (returned_check c.args.names.now c.args.rows.now c.args.returns c.args.line c.args.e.now) c.args.used.now _ _ _ c.in_ok-e.ensures refl
