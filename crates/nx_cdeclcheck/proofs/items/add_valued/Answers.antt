use Rattle.std.proofs.lemmas.Result.{err_from_is_err_and}
use Rattle.nx_cdeclcheck.specs.Done.{declared}
use Rattle.nx_cdeclcheck.proofs.Valued.{declaration_fails, without_value, with_value}
use Rattle.nx_cdeclcheck.proofs.items.add_valued.Goals as goal

pub returns-in_err-add_scalar-clause-done : goal.returns-in_err-add_scalar-clause-done
returns-in_err-add_scalar-clause-done c =
    let p = err_from_is_err_and c.from_residual-in_err-add_scalar.result c.from_residual-in_err-add_scalar.ensures.1 in
    rw (p.1, p.2) (declaration_fails c.args.rows.now c.args.item.now c.args.value.now (declared c.args.names.now c.args.locals.now) c.args.used.now _ c.args.held c.in_err-add_scalar.ensures.done)

pub returns-in-None-clause-done : goal.returns-in-None-clause-done
returns-in-None-clause-done c =
    without_value c.args.rows.now c.args.item.now c.args.value.now (declared c.args.names.now c.args.locals.now) c.args.used.now c.args.held _ c.in-None.is c.in_ok-add_scalar.ensures.done

pub returns-in-Some-clause-done : goal.returns-in-Some-clause-done
returns-in-Some-clause-done c =
    with_value c.args.rows.now c.args.item.now c.args.value.now (declared c.args.names.now c.args.locals.now) c.args.used.now c.args.held c.in-Some.held c.in_ok-cell.cell _ _ _ c.add_value.result c.in-Some.is c.in_ok-cell.ensures c.in_ok-add_scalar.ensures.done c.add_value.ensures
