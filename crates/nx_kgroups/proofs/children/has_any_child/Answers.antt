use Rattle.std.proofs.Common.{sym, ◌∙◌}
use Rattle.nx_kgroups.proofs.Regrouped.{any_child_joined}
use Rattle.nx_kgroups.proofs.Waited.{or_true, or_false}
use Rattle.nx_kgroups.proofs.children.has_any_child.Goals as goal

pub returns-then-has_any_child : goal.returns-then-has_any_child
returns-then-has_any_child c =
    let t = c.args.tables.now in
    or_true _ _ _ (c.has_any_child.ensures ∙ sym (any_child_joined c.args.parent t.groups t.environments)) c.if-has_any_child.true

pub returns-else-has_any_child : goal.returns-else-has_any_child
returns-else-has_any_child c =
    let t = c.args.tables.now in
    or_false _ _ _ _ (c.has_any_child.ensures ∙ sym (any_child_joined c.args.parent t.groups t.environments)) c.if-has_any_child.false c.has_any.ensures
