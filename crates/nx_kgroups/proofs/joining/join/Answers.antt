use Rattle.std.proofs.Common.{◌≡◌, sym, ap, ◌∙◌}
use Rattle.std.specs.List.{find}
use Rattle.nx_ksys.specs.ThreadCalls.{is_value, join_live, join_value, join_row}
use Rattle.nx_ksys.proofs.Standing.{some_same}
use Rattle.nx_ktables.specs.State.{state_of}
use Rattle.nx_ktables.proofs.Answering.{does_as}
use Rattle.nx_kgroups.specs.Outcomes.{calls_at}
use Rattle.nx_kgroups.proofs.joining.join.Goals as goal

pub returns-in-None-left_value-clause-does : goal.returns-in-None-left_value-clause-does
unfolding join_row
returns-in-None-left_value-clause-does c = λ content h e.
    let old = c.args.tables.now in
    let k = state_of content old in
    let who = calls_at old c.args.caller c.args.place h in
    let same = some_same _ _ (c.in-Some.ensures ∙ e) in
    let number : h.number ≡ c.number-group.result = sym (c.number-group.ensures ∙ ap (λ x. x.number) same) in
    let none = ap (λ n. find (is_value n c.args.thread) old.values.values) number ∙ sym c.in-None-left_value.ensures in
    does_as _ _ _ _ _ (ap (join_value k who c.args.thread) none ∙ ap (join_live k who) (sym c.thread-other.ensures))
    (c.wait_for_end.ensures.does k c.args.place who.group number)
