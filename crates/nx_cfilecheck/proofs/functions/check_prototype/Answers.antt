use Rattle.std.proofs.Common.{refl, false}
use Rattle.std.specs.Prelude.{◌||◌, not}
use Rattle.std.proofs.lemmas.Result.{err_from_is_err_and}
use Rattle.nx_cdeclcheck.proofs.Refused.{refused_as, done_as}
use Rattle.std.specs.Map.{lookup}
use Rattle.std.specs.Str.{bytes_eq}
use Rattle.nx_cbody.specs.Declarations.{is_long}
use Rattle.nx_ccheck.specs.Files.{is_char, agrees}
use Rattle.nx_cfilecheck.specs.Defining.{trying}
use Rattle.nx_cfilecheck.proofs.functions.check_prototype.Goals as goal

pub returns-in_err-refuse : goal.returns-in_err-refuse
returns-in_err-refuse c =
    let k = c.args.known.now in
    let x = c.args.x.now in
    let ps = c.args.params.now in
    let p = err_from_is_err_and c.from_residual-in_err-refuse.result c.from_residual-in_err-refuse.ensures.1 in
    rw (p.1, p.2) (refused_as false c.in_ok-wrong.wrong c.is_long-long.result false (is_char x.result || not (agrees (lookup (bytes_eq x.name) k.names.functions) x.result ps)) (is_long x.name) x.line (trying k ps) _
    refl c.in_ok-wrong.ensures c.is_long-long.ensures refl _ c.in_err-refuse.ensures)

pub returns : goal.returns
returns c =
    let k = c.args.known.now in
    let x = c.args.x.now in
    let ps = c.args.params.now in
    done_as false c.in_ok-wrong.wrong c.is_long-long.result false (is_char x.result || not (agrees (lookup (bytes_eq x.name) k.names.functions) x.result ps)) (is_long x.name) x.line (trying k ps) _
    refl c.in_ok-wrong.ensures c.is_long-long.ensures refl _ c.try_params.result _ c.in_ok-refuse.ensures c.try_params.ensures
