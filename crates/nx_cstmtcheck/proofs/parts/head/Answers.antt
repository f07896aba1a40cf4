use Rattle.nx_ctyping.proofs.Binds.{three_on}
use Rattle.std.proofs.Common.{refl}
use Rattle.std.proofs.lemmas.Result.{err_from_is_err_and}
use Rattle.nx_cstmtcheck.specs.declared.parts.Wanted.TheVariants as wanted
use Rattle.nx_cstmtcheck.specs.Code.{head_rule, maybe_check}
use Rattle.nx_cleaves.proofs.Given.{both_first, both_second, three_first, three_fails}
use Rattle.nx_cstmtcheck.proofs.parts.head.Goals as goal

pub returns-in_err-first : goal.returns-in_err-first
returns-in_err-first c = let p = err_from_is_err_and c.from_residual.result c.from_residual.ensures.1 in rw (p.1, p.2) (three_first _ head_rule c.args.line (maybe_check c.args.names.now c.args.rows.now wanted.Value c.args.line c.args.first.now) (maybe_check c.args.names.now c.args.rows.now wanted.Number c.args.line c.args.test.now) (maybe_check c.args.names.now c.args.rows.now wanted.Value c.args.line c.args.next.now) c.args.used.now c.in_err-first.ensures)

pub returns-in_err-test : goal.returns-in_err-test
returns-in_err-test c = let p = err_from_is_err_and c.from_residual-in_err-test.result c.from_residual-in_err-test.ensures.1 in rw (p.1, p.2) (three_fails _ head_rule c.args.line (maybe_check c.args.names.now c.args.rows.now wanted.Value c.args.line c.args.first.now) (maybe_check c.args.names.now c.args.rows.now wanted.Number c.args.line c.args.test.now) (maybe_check c.args.names.now c.args.rows.now wanted.Value c.args.line c.args.next.now) c.args.used.now _ _ c.in_ok-first.ensures (both_first _ (maybe_check c.args.names.now c.args.rows.now wanted.Number c.args.line c.args.test.now) (maybe_check c.args.names.now c.args.rows.now wanted.Value c.args.line c.args.next.now) _ c.in_err-test.ensures))

pub returns-in_err-next : goal.returns-in_err-next
returns-in_err-next c = let p = err_from_is_err_and c.from_residual-in_err-next.result c.from_residual-in_err-next.ensures.1 in rw (p.1, p.2) (three_fails _ head_rule c.args.line (maybe_check c.args.names.now c.args.rows.now wanted.Value c.args.line c.args.first.now) (maybe_check c.args.names.now c.args.rows.now wanted.Number c.args.line c.args.test.now) (maybe_check c.args.names.now c.args.rows.now wanted.Value c.args.line c.args.next.now) c.args.used.now _ _ c.in_ok-first.ensures (both_second _ (maybe_check c.args.names.now c.args.rows.now wanted.Number c.args.line c.args.test.now) (maybe_check c.args.names.now c.args.rows.now wanted.Value c.args.line c.args.next.now) _ _ _ c.in_ok-test.ensures c.in_err-next.ensures))

pub returns : goal.returns
returns c =
    three_on head_rule c.args.line (maybe_check c.args.names.now c.args.rows.now wanted.Value c.args.line c.args.first.now) (maybe_check c.args.names.now c.args.rows.now wanted.Number c.args.line c.args.test.now)
    (maybe_check c.args.names.now c.args.rows.now wanted.Value c.args.line c.args.next.now) c.args.used.now _ _ _ _ _ _ _ c.in_ok-first.ensures c.in_ok-test.ensures c.in_ok-next.ensures refl
