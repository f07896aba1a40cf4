use Rattle.std.proofs.lemmas.Result.{err_from_is_err_and}
use Rattle.nx_cdeclcheck.specs.Done.{declared}
use Rattle.nx_cdeclcheck.proofs.Valued.{value_fails, assignment_fails, value_put}
use Rattle.nx_cdeclcheck.proofs.items.add_value.Goals as goal

pub returns-in_err-typed : goal.returns-in_err-typed
returns-in_err-typed c =
    let p = err_from_is_err_and c.from_residual.result c.from_residual.ensures.1 in
    rw (p.1, p.2) (value_fails c.args.rows.now c.args.line c.args.cell c.args.held c.args.value.now (declared c.args.names.now c.args.locals.now) c.args.used.now _ c.in_err-typed.ensures)

pub returns-in_err-assigned : goal.returns-in_err-assigned
returns-in_err-assigned c =
    let p = err_from_is_err_and c.from_residual-in_err-assigned.result c.from_residual-in_err-assigned.ensures.1 in
    rw (p.1, p.2) (assignment_fails c.args.rows.now c.args.line c.args.cell c.args.held c.args.value.now (declared c.args.names.now c.args.locals.now) c.args.used.now _ _ _ c.in_ok-typed.ensures c.in_err-assigned.ensures)

pub returns : goal.returns
returns c =
    value_put c.args.rows.now c.args.line c.args.cell c.args.held c.args.value.now (declared c.args.names.now c.args.locals.now) c.args.used.now _ _ _ _ c.in_ok-typed.ensures c.in_ok-assigned.ensures c.in_ok-push.ensures.ok
