use Rattle.std.proofs.Common.{refl, ap}
use Rattle.std.proofs.lemmas.Result.{err_from_is_err_and}
use Rattle.nx_cbody.specs.Declarations.{is_taken, is_long, scalar_given, with_scalar}
use Rattle.nx_ctyping.proofs.Binds.{kept}
use Rattle.nx_cdeclcheck.specs.Done.{declared}
use Rattle.nx_cdeclcheck.proofs.Refused.{refused_as, done_as, whole_as}
use Rattle.nx_cdeclcheck.proofs.items.add_scalar.Goals as goal

pub returns-in-None-clause-done : goal.returns-in-None-clause-done
returns-in-None-clause-done c =
    let f = declared c.args.names.now c.args.locals.now in
    whole_as c.refuse.result f c.is_taken-taken.result (is_taken f c.args.item.now.name) c.args.item.now.line _ c.is_taken-taken.ensures (ap (λ o. scalar_given f c.args.item.now o) c.in-None.is) c.refuse.ensures

pub returns-in_err-refuse-in-Some-clause-done : goal.returns-in_err-refuse-in-Some-clause-done
returns-in_err-refuse-in-Some-clause-done c =
    let f = declared c.args.names.now c.args.locals.now in
    let p = err_from_is_err_and c.from_residual.result c.from_residual.ensures.1 in
    rw (p.1, p.2) (refused_as c.is_taken-taken.result _ c.is_long-long.result (is_taken f c.args.item.now.name) _ (is_long c.args.item.now.name) c.args.item.now.line (kept (with_scalar f c.args.item.now.name c.in-Some.held)) _
    c.is_taken-taken.ensures refl c.is_long-long.ensures (ap (λ o. scalar_given f c.args.item.now o) c.in-Some.is) _ c.in_err-refuse-in-Some.ensures)

pub returns-in_ok-refuse-in-Some-clause-done : goal.returns-in_ok-refuse-in-Some-clause-done
returns-in_ok-refuse-in-Some-clause-done c =
    let f = declared c.args.names.now c.args.locals.now in
    done_as c.is_taken-taken.result _ c.is_long-long.result (is_taken f c.args.item.now.name) _ (is_long c.args.item.now.name) c.args.item.now.line (kept (with_scalar f c.args.item.now.name c.in-Some.held)) _
    c.is_taken-taken.ensures refl c.is_long-long.ensures (ap (λ o. scalar_given f c.args.item.now o) c.in-Some.is) _ c.put_scalar.result _ c.in_ok-refuse-in-Some.ensures c.put_scalar.ensures.done
