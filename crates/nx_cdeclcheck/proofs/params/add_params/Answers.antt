use Rattle.std.proofs.Common.{refl, sym, ◌∙◌}
use Rattle.std.proofs.lemmas.Result.{err_from_is_err_and}
use Rattle.nx_cbody.specs.Declarations.{param_verdict, params_verdict}
use Rattle.nx_cdeclcheck.specs.Done.{declared}
use Rattle.nx_cdeclcheck.proofs.Walk.{goes_on, stops, all_done}
use Rattle.nx_cdeclcheck.proofs.params.add_params.Goals as goal

pub returns-in_err-add_param-clause-done : goal.returns-in_err-add_param-clause-done
returns-in_err-add_param-clause-done c =
    let p = err_from_is_err_and c.from_residual.result c.from_residual.ensures.1 in
    rw (p.1, p.2) (stops param_verdict params_verdict (λ d. refl) (λ d x xs. refl) _ (declared c.loop-param.names c.loop-param.locals) c.args.params.now c.loop-param.param-index c.param-item.result _ c.loop-param-test.true (sym c.param-item.is) c.loop-param.invariant.left c.in_err-add_param.ensures.done)

pub loop-param-preserved : goal.loop-param-preserved
loop-param-preserved c = record {
  left = goes_on param_verdict params_verdict (λ d. refl) (λ d x xs. refl) (declared c.loop-param.names c.loop-param.locals) _ c.args.params.now c.loop-param.param-index c.param-item.result _ c.loop-param-test.true (sym c.param-item.is) c.loop-param.invariant.left c.in_ok-add_param.ensures.done;
  same = record {
    functions = c.in_ok-add_param.ensures.same.functions ∙ c.loop-param.invariant.same.functions;
    globals = c.in_ok-add_param.ensures.same.globals ∙ c.loop-param.invariant.same.globals;
  };
}

pub returns-clause-done : goal.returns-clause-done
returns-clause-done c = all_done param_verdict params_verdict (λ d. refl) (λ d x xs. refl) (declared c.loop-param.names c.loop-param.locals) c.args.params.now c.loop-param.param-index _ c.loop-param-test.false c.loop-param.invariant.left
