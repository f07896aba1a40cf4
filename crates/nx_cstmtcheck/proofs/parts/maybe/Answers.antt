use Rattle.nx_cstmtcheck.proofs.Answered.{none_answered, some_answered}
use Rattle.nx_cstmtcheck.proofs.parts.maybe.Goals as goal

pub returns-in-None : goal.returns-in-None
returns-in-None c = none_answered _ _ c.args.wanted c.args.line c.args.e.now c.args.used.now c.in-None.is

pub returns-in-Some : goal.returns-in-Some
returns-in-Some c = some_answered _ _ c.args.wanted c.args.line c.args.e.now _ _ _ _ _ c.in-Some.is c.get.ensures c.there.ensures
