use Rattle.std.proofs.Common.{[], sym, ap, ◌∙◌}
use Rattle.nx_ksys.proofs.Standing.{some_same}
use Rattle.nx_ksys.specs.Answers.{replied}
use Rattle.nx_ktables.specs.State.{state_of}
use Rattle.nx_ktables.proofs.Answering.{does_as}
use Rattle.nx_kgroups.specs.Outcomes.{calls_at}
use Rattle.nx_kgroups.proofs.group_calls.tell_group.Goals as goal

pub returns-in-Some-clause-does : goal.returns-in-Some-clause-does
returns-in-Some-clause-does c = λ content h e.
    let old = c.args.tables.now in
    let k = state_of content old in
    let who = calls_at old c.args.caller c.args.place h in
    let same = some_same _ _ (c.in-Some.ensures ∙ e) in
    does_as _ _ _ _ _ (ap (λ n. replied k who n []) (sym (c.number-number.ensures ∙ ap (λ x. x.number) same)))
    (c.answer.ensures.does k c.args.place who.group)
