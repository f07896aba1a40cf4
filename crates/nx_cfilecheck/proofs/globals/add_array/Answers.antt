use Rattle.std.proofs.Common.{ap}
use Rattle.nx_cdeclcheck.proofs.Refused.{whole_as}
use Rattle.nx_ccheck.specs.Globals.{is_taken, array_verdict}
use Rattle.nx_cfilecheck.proofs.globals.add_array.Goals as goal

pub returns-in-None : goal.returns-in-None
returns-in-None c =
    let k = c.args.known.now in
    let x = c.args.x.now in
    whole_as c.refuse.result k c.is_taken-taken.result (is_taken k x.name) x.line _ c.is_taken-taken.ensures (ap (λ o. array_verdict k x o c.args.length.now c.args.initialiser.now) c.in-None.is) c.refuse.ensures
