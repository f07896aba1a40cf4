use Rattle.std.proofs.Common.{sym, ap, ◌∙◌}
use Rattle.nx_ksys.proofs.Standing.{some_same}
use Rattle.nx_kgroups.specs.Outcomes.{calls_at}
use Rattle.nx_kgroups.proofs.children.wait_for_child.Goals as goal

pub returns-in-Some-clause-does : goal.returns-in-Some-clause-does
returns-in-Some-clause-does c = λ content h e.
    let same = some_same _ _ (c.in-Some.ensures ∙ e) in
    let who = calls_at c.args.tables.now c.args.caller c.args.place h in
    c.wait_in.ensures.does content c.args.place who.group (sym (c.number-parent.ensures ∙ ap (λ x. x.number) same))
