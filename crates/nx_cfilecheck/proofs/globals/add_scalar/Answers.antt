use Rattle.std.proofs.Common.{refl, ap, false}
use Rattle.std.specs.Prelude.{◌||◌}
use Rattle.std.proofs.lemmas.Result.{err_from_is_err_and}
use Rattle.nx_ctyping.proofs.Binds.{kept}
use Rattle.nx_cdeclcheck.proofs.Refused.{refused_as, done_as, whole_as}
use Rattle.nx_cbody.specs.Declarations.{is_long}
use Rattle.nx_ccheck.specs.Globals.{is_taken, is_full, scalar_verdict, with_scalar}
use Rattle.nx_cfilecheck.proofs.globals.add_scalar.Goals as goal

pub returns-in-None : goal.returns-in-None
returns-in-None c =
    let k = c.args.known.now in
    let x = c.args.x.now in
    whole_as c.refuse.result k c.is_taken-taken.result (is_taken k x.name) x.line _ c.is_taken-taken.ensures (ap (λ o. scalar_verdict k x o c.args.value) c.in-None.is) c.refuse.ensures

pub returns-in_err-refuse-in-Some : goal.returns-in_err-refuse-in-Some
returns-in_err-refuse-in-Some c =
    let k = c.args.known.now in
    let x = c.args.x.now in
    let p = err_from_is_err_and c.from_residual.result c.from_residual.ensures.1 in
    rw (p.1, p.2) (refused_as c.is_taken-taken.result false c.is_beyond-beyond.result (is_taken k x.name) false (is_long x.name || is_full k 4) x.line (kept (with_scalar k x.name c.in-Some.scalar c.args.value)) _
    c.is_taken-taken.ensures refl c.is_beyond-beyond.ensures (ap (λ o. scalar_verdict k x o c.args.value) c.in-Some.is) _ c.in_err-refuse-in-Some.ensures)

pub returns-in_ok-refuse-in-Some : goal.returns-in_ok-refuse-in-Some
returns-in_ok-refuse-in-Some c =
    let k = c.args.known.now in
    let x = c.args.x.now in
    done_as c.is_taken-taken.result false c.is_beyond-beyond.result (is_taken k x.name) false (is_long x.name || is_full k 4) x.line (kept (with_scalar k x.name c.in-Some.scalar c.args.value)) _
    c.is_taken-taken.ensures refl c.is_beyond-beyond.ensures (ap (λ o. scalar_verdict k x o c.args.value) c.in-Some.is) _ c.put_scalar.result _ c.in_ok-refuse-in-Some.ensures c.put_scalar.ensures
