use Rattle.std.proofs.lemmas.Result.{err_from_is_err_and}
use Rattle.nx_cfilecheck.proofs.Definitions.{defining_fails}
use Rattle.nx_cfilecheck.proofs.functions.put_definition.Goals as goal

pub returns-in_err-function : goal.returns-in_err-function
returns-in_err-function c =
    let p = err_from_is_err_and c.from_residual-in_err-function.result c.from_residual-in_err-function.ensures.1 in
    rw (p.1, p.2) (defining_fails c.args.rows.now c.args.known.now c.args.x.now c.args.params.now c.args.body.now c.returns_of-returns.result c.returns_of-returns.ensures _ c.in_err-function.ensures.given)
