use Rattle.std.proofs.Common.{◌≤◌, ◌==◌, length, map, sym, subst, ap, ◌∙◌}
use Rattle.std.specs.Prelude.{None, slice_set, not}
use Rattle.nx_ksys.specs.State.{Code}
use Rattle.nx_ksys.specs.Ends.{nobodys, left_alone}
use Rattle.nx_env.specs.Joined.{joined}
use Rattle.nx_env.proofs.JoinedLemmas.{joined_nobodys, joined_set}
use Rattle.nx_ktables.specs.State.{state_of}
use Rattle.nx_kgroups.proofs.Vanishing.{shorter}
use Rattle.nx_kgroups.proofs.ending.leave.Goals as goal

pub returns-clause-state : goal.returns-clause-state
unfolding left_alone
returns-clause-state c = λ content.
    let old = c.args.tables.now in
    let vs = old.environments in
    let groups = ap (λ gs. joined gs vs) c.end.ensures ∙ sym (joined_nobodys c.args.group (slice_set old.groups c.args.place None) vs) ∙ ap (map (nobodys c.args.group)) (joined_set old.groups vs c.args.place None) in
    (λ i. record (state_of content old) { groups = groups i; codes = ap (λ x. x.codes) c.forget.ensures i })

pub returns-clause-fewer : goal.returns-clause-fewer
returns-clause-fewer c =
    let old = c.args.tables.now.codes.codes in
    subst (λ cs. length cs ≤ length old) (sym (ap (λ x. x.codes) c.forget.ensures)) (shorter (λ (x : Code). not (x.parent == c.args.group)) old)
