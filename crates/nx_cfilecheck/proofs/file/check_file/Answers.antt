use Rattle.std.proofs.lemmas.Result.{err_from_is_err_and}
use Rattle.nx_cfilecheck.proofs.Programs.{file_fails, file_given}
use Rattle.nx_cfilecheck.proofs.file.check_file.Goals as goal

pub returns-in_err-add_externals : goal.returns-in_err-add_externals
returns-in_err-add_externals c =
    let p = err_from_is_err_and c.from_residual-in_err-add_externals.result c.from_residual-in_err-add_externals.ensures.1 in
    rw (p.1, p.2) (file_fails c.args.rows.now c.args.unit.now c.as_slice-externals.result.now c.in_ok-known.known c.as_slice-externals.ensures c.in_ok-known.ensures _ c.in_err-add_externals.ensures)

pub returns : goal.returns
returns c = file_given c.args.rows.now c.args.unit.now c.as_slice-externals.result.now c.in_ok-known.known c.as_slice-externals.ensures c.in_ok-known.ensures _ c.finish.result c.in_ok-add_externals.ensures c.finish.ensures
