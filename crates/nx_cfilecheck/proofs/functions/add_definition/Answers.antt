use Rattle.std.proofs.Common.{refl}
use Rattle.std.specs.Prelude.{◌||◌, not}
use Rattle.std.proofs.lemmas.Result.{err_from_is_err_and}
use Rattle.nx_cdeclcheck.proofs.Refused.{refused_as, done_as}
use Rattle.nx_cbody.specs.Declarations.{is_long}
use Rattle.nx_ccheck.specs.Globals.{is_taken}
use Rattle.nx_ccheck.specs.Files.{is_char, main_fits, has_all_functions}
use Rattle.nx_cfilecheck.specs.Defining.{defining}
use Rattle.nx_cfilecheck.proofs.functions.add_definition.Goals as goal

pub returns-in_err-refuse : goal.returns-in_err-refuse
returns-in_err-refuse c =
    let k = c.args.known.now in
    let x = c.args.x.now in
    let ps = c.args.params.now in
    let p = err_from_is_err_and c.from_residual.result c.from_residual.ensures.1 in
    rw (p.1, p.2) (refused_as c.is_taken-taken.result c.is_wrong_definition-wrong.result c.is_beyond-beyond.result (is_taken k x.name) (is_char x.result || not (main_fits x ps)) (is_long x.name || has_all_functions k) x.line (defining c.args.rows.now k x ps c.args.body.now) _
    c.is_taken-taken.ensures c.is_wrong_definition-wrong.ensures c.is_beyond-beyond.ensures refl _ c.in_err-refuse.ensures)

pub returns : goal.returns
returns c =
    let k = c.args.known.now in
    let x = c.args.x.now in
    let ps = c.args.params.now in
    done_as c.is_taken-taken.result c.is_wrong_definition-wrong.result c.is_beyond-beyond.result (is_taken k x.name) (is_char x.result || not (main_fits x ps)) (is_long x.name || has_all_functions k) x.line (defining c.args.rows.now k x ps c.args.body.now) _
    c.is_taken-taken.ensures c.is_wrong_definition-wrong.ensures c.is_beyond-beyond.ensures refl _ c.put_definition.result _ c.in_ok-refuse.ensures c.put_definition.ensures
