use Rattle.std.proofs.Common.{ap, ◌∙◌}
use Rattle.std.proofs.lemmas.Result.{err_from_is_err_and}
use Rattle.nx_cbody.specs.Declarations.{Declared}
use Rattle.nx_cdeclcheck.proofs.Functions.{params_fail, decls_fail, body_fails, all_given, any_ok, closed_same}
use Rattle.nx_cdeclcheck.proofs.function.check_function.Goals as goal

pub returns-in_err-add_params-clause-given : goal.returns-in_err-add_params-clause-given
returns-in_err-add_params-clause-given c =
    let p = err_from_is_err_and c.from_residual.result c.from_residual.ensures.1 in
    rw (p.1, p.2) (params_fail c.args.rows.now c.args.names.now c.args.line c.args.returns c.args.params.now c.args.function.now c.args.used.now _ _ c.begin-locals.ensures c.in_err-add_params.ensures.done)

pub returns-in_err-add_decls-clause-given : goal.returns-in_err-add_decls-clause-given
returns-in_err-add_decls-clause-given c =
    let p = err_from_is_err_and c.from_residual-in_err-add_decls.result c.from_residual-in_err-add_decls.ensures.1 in
    rw (p.1, p.2) (decls_fail c.args.rows.now c.args.names.now c.args.line c.args.returns c.args.params.now c.args.function.now c.args.used.now _ _ c.begin-locals.ensures c.in_ok-add_params.ensures.done _ _ c.as_slice-decls.ensures c.in_err-add_decls.ensures.done)

pub returns-in_err-body-clause-given : goal.returns-in_err-body-clause-given
returns-in_err-body-clause-given c =
    let p = err_from_is_err_and c.from_residual-in_err-body.result c.from_residual-in_err-body.ensures.1 in
    rw (p.1, p.2) (body_fails c.args.rows.now c.args.names.now c.args.line c.args.returns c.args.params.now c.args.function.now c.args.used.now _ _ c.begin-locals.ensures c.in_ok-add_params.ensures.done _ _ _ _ c.as_slice-decls.ensures (c.as_slice-statements.ensures ∙ c.get.ensures) c.in_ok-add_decls.ensures.done _ c.in_err-body.ensures)

pub returns-clause-given : goal.returns-clause-given
returns-clause-given c =
    all_given c.args.rows.now c.args.names.now c.args.line c.args.returns c.args.params.now c.args.function.now c.args.used.now _ _ c.begin-locals.ensures c.in_ok-add_params.ensures.done _ _ _ _ c.as_slice-decls.ensures (c.as_slice-statements.ensures ∙ c.get.ensures) c.in_ok-add_decls.ensures.done _ _
    c.framed.result c.in_ok-body.ensures (c.framed.ensures c.add_decls.new.names)

pub returns-clause-closed : goal.returns-clause-closed
returns-clause-closed c =
    any_ok _ c.framed.result
    (c.close.ensures ∙ closed_same c.args.names.now c.add_decls.new.names (record {
      functions = c.in_ok-add_decls.ensures.same.functions ∙ c.in_ok-add_params.ensures.same.functions ∙ ap (λ (d : Declared). d.names.functions) c.begin-locals.ensures;
      globals = c.in_ok-add_decls.ensures.same.globals ∙ c.in_ok-add_params.ensures.same.globals ∙ ap (λ (d : Declared). d.names.globals) c.begin-locals.ensures;
    }))
