use Rattle.std.proofs.lemmas.Result.{err_from_is_err_and}
use Rattle.nx_cfilecheck.proofs.Definitions.{trying_fails, tried}
use Rattle.nx_cfilecheck.proofs.functions.try_params.Goals as goal

pub returns-in_err-add_params : goal.returns-in_err-add_params
returns-in_err-add_params c =
    let p = err_from_is_err_and c.from_residual.result c.from_residual.ensures.1 in
    rw (p.1, p.2) (trying_fails c.args.known.now c.args.params.now _ c.begin-locals.ensures _ c.in_err-add_params.ensures.done)

pub returns : goal.returns
returns c = tried c.args.known.now c.args.params.now _ c.begin-locals.ensures _ _ c.in_ok-add_params.ensures.done c.in_ok-add_params.ensures.same c.close.ensures
