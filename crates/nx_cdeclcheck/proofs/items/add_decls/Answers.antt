use Rattle.std.proofs.Common.{refl, sym, ◌∙◌}
use Rattle.std.proofs.lemmas.Result.{err_from_is_err_and}
use Rattle.nx_cbody.specs.Declarations.{items_verdict, decls_verdict}
use Rattle.nx_cdeclcheck.specs.Done.{declared}
use Rattle.nx_cdeclcheck.proofs.Walk.{goes_on, stops, all_done}
use Rattle.nx_cdeclcheck.proofs.items.add_decls.Goals as goal

pub returns-in_err-add_decl-clause-done : goal.returns-in_err-add_decl-clause-done
returns-in_err-add_decl-clause-done c =
    let p = err_from_is_err_and c.from_residual.result c.from_residual.ensures.1 in
    rw (p.1, p.2) (stops (λ d x. items_verdict c.args.rows.now x.base d.0 x.items d.1) (λ d xs. decls_verdict c.args.rows.now d.0 xs d.1) (λ d. refl) (λ d x xs. refl) _ (declared c.loop-decl.names c.loop-decl.locals, c.loop-decl.used) c.args.decls.now c.loop-decl.decl-index c.decl-item.result _ c.loop-decl-test.true (sym c.decl-item.is) c.loop-decl.invariant.left c.in_err-add_decl.ensures.done)

pub loop-decl-preserved : goal.loop-decl-preserved
loop-decl-preserved c = record {
  left = goes_on (λ d x. items_verdict c.args.rows.now x.base d.0 x.items d.1) (λ d xs. decls_verdict c.args.rows.now d.0 xs d.1) (λ d. refl) (λ d x xs. refl) (declared c.loop-decl.names c.loop-decl.locals, c.loop-decl.used) _ c.args.decls.now c.loop-decl.decl-index c.decl-item.result _ c.loop-decl-test.true (sym c.decl-item.is) c.loop-decl.invariant.left c.in_ok-add_decl.ensures.done;
  same = record {
    functions = c.in_ok-add_decl.ensures.same.functions ∙ c.loop-decl.invariant.same.functions;
    globals = c.in_ok-add_decl.ensures.same.globals ∙ c.loop-decl.invariant.same.globals;
  };
}

pub returns-clause-done : goal.returns-clause-done
returns-clause-done c = all_done (λ d x. items_verdict c.args.rows.now x.base d.0 x.items d.1) (λ d xs. decls_verdict c.args.rows.now d.0 xs d.1) (λ d. refl) (λ d x xs. refl) (declared c.loop-decl.names c.loop-decl.locals, c.loop-decl.used) c.args.decls.now c.loop-decl.decl-index _ c.loop-decl-test.false c.loop-decl.invariant.left
