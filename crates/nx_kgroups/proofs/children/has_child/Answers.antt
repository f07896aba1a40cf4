use Rattle.std.proofs.Common.{sym, ◌∙◌}
use Rattle.nx_kgroups.proofs.Regrouped.{child_joined}
use Rattle.nx_kgroups.proofs.Waited.{or_true, or_false}
use Rattle.nx_kgroups.proofs.children.has_child.Goals as goal

pub returns-then-has_child : goal.returns-then-has_child
returns-then-has_child c =
    let t = c.args.tables.now in
    or_true _ _ _ (c.has_child.ensures ∙ sym (child_joined c.args.parent c.args.child t.groups t.environments)) c.if-has_child.true

pub returns-else-has_child : goal.returns-else-has_child
returns-else-has_child c =
    let t = c.args.tables.now in
    or_false _ _ _ _ (c.has_child.ensures ∙ sym (child_joined c.args.parent c.args.child t.groups t.environments)) c.if-has_child.false c.has.ensures
