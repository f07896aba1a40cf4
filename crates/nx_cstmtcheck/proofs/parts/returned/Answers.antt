use Rattle.std.proofs.Common.{sym, subst}
use Rattle.nx_ctyping.specs.Checks.{IsGivenUsing}
use Rattle.nx_cstmtcheck.specs.Code.{returned_check}
use Rattle.nx_cstmtcheck.proofs.Answered.{nothing_answered, lacking_answered, given_answered}
use Rattle.nx_cstmtcheck.proofs.parts.returned.Goals as goal

pub returns-then-not-returns : goal.returns-then-not-returns
returns-then-not-returns c = nothing_answered _ _ c.args.returns c.args.line c.args.e.now _ _ _ c.if-not-returns.true c.maybe.ensures

pub returns-in-None : goal.returns-in-None
returns-in-None c =
    subst (λ r. IsGivenUsing r c.args.used.now (returned_check c.args.names.now c.args.rows.now c.args.returns c.args.line c.args.e.now c.args.used.now)) (sym c.lacking.ensures)
    (lacking_answered c.args.names.now c.args.rows.now c.args.returns c.args.line c.args.e.now c.args.used.now c.if-not-returns.false c.in-None.is)

pub returns-in-Some : goal.returns-in-Some
returns-in-Some c = given_answered _ _ c.args.returns c.args.line c.args.e.now _ _ _ _ _ c.if-not-returns.false c.in-Some.is c.get.ensures c.there.ensures
