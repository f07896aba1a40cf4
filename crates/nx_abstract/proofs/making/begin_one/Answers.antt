use Rattle.std.proofs.Common.{◌≡◌, Some, None, subst}
use Rattle.nx_shrun.specs.AbstractRuns.{wrong_group}
use Rattle.nx_guests.specs.Guests.{start_of}
use Rattle.nx_guests.specs.Kept.{seen}
use Rattle.nx_abstract.proofs.Beginning.{wrong_other}
use Rattle.nx_abstract.proofs.making.begin_one.Goals as goal

pub returns-in-Some-clause-wrong : goal.returns-in-Some-clause-wrong
returns-in-Some-clause-wrong g c = λ script.
    let p = g.P.Programs in
    wrong_other p.fault_of (p.meaning c.args.guests.now.programs) script (start_of c.args.start) (Some c.in-Some.why) c.if-start.false
    (subst (λ q. seen p.fault_of (Some c.in-Some.why) ≡ wrong_group (p.meaning q) script (start_of c.args.start)) c.programs.ensures (c.in-Some.ensures script))

pub returns-in_ok-begin-in-None-clause-wrong : goal.returns-in_ok-begin-in-None-clause-wrong
returns-in_ok-begin-in-None-clause-wrong g c = λ script.
    let p = g.P.Programs in
    wrong_other p.fault_of (p.meaning c.args.guests.now.programs) script (start_of c.args.start) None c.if-start.false
    (subst (λ q. seen p.fault_of None ≡ wrong_group (p.meaning q) script (start_of c.args.start)) c.programs.ensures (c.in-None.ensures script))
