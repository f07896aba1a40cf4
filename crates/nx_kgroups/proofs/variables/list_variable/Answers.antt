use Rattle.nx_ktables.specs.State.{state_of}
use Rattle.nx_ktables.proofs.Answering.{does_as}
use Rattle.nx_kgroups.specs.Outcomes.{calls_at}
use Rattle.nx_kgroups.proofs.variables.list_variable.Goals as goal

pub returns-clause-does : goal.returns-clause-does
returns-clause-does c = λ content h e.
    let old = c.args.tables.now in
    let k = state_of content old in
    let who = calls_at old c.args.caller c.args.place h in
    does_as _ _ _ _ _ (c.list-text.ensures k who c.args.size)
    (c.tell_listed.ensures.does k c.args.place who.group)
