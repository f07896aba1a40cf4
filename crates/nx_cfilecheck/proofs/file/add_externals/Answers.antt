use Rattle.std.proofs.Common.{refl, sym}
use Rattle.std.proofs.lemmas.Result.{err_from_is_err_and}
use Rattle.nx_ccheck.specs.Files.{rest_verdict, externals_verdict}
use Rattle.nx_cdeclcheck.proofs.Walk.{goes_on, stops, all_done}
use Rattle.nx_cfilecheck.proofs.file.add_externals.Goals as goal

pub returns-in_err-add_external : goal.returns-in_err-add_external
returns-in_err-add_external c =
    let p = err_from_is_err_and c.from_residual.result c.from_residual.ensures.1 in
    rw (p.1, p.2) (stops (λ k x. rest_verdict c.args.rows.now k x x.rest) (λ k xs. externals_verdict c.args.rows.now k xs) (λ k. refl) (λ k x xs. refl) _ c.loop-x.known c.args.externals.now c.loop-x.x-index c.x-item.result _ c.loop-x-test.true (sym c.x-item.is) c.loop-x.invariant c.in_err-add_external.ensures)

pub loop-x-preserved : goal.loop-x-preserved
loop-x-preserved c = goes_on (λ k x. rest_verdict c.args.rows.now k x x.rest) (λ k xs. externals_verdict c.args.rows.now k xs) (λ k. refl) (λ k x xs. refl) c.loop-x.known _ c.args.externals.now c.loop-x.x-index c.x-item.result _ c.loop-x-test.true (sym c.x-item.is) c.loop-x.invariant c.in_ok-add_external.ensures

pub returns : goal.returns
returns c = all_done (λ k x. rest_verdict c.args.rows.now k x x.rest) (λ k xs. externals_verdict c.args.rows.now k xs) (λ k. refl) (λ k x xs. refl) c.loop-x.known c.args.externals.now c.loop-x.x-index _ c.loop-x-test.false c.loop-x.invariant
