use Rattle.std.proofs.Common.{sym, ◌∙◌, subst}
use Rattle.nx_ksys.specs.Gathered.{replies_of}
use Rattle.nx_ksys.specs.Ends.{told_parent}
use Rattle.nx_group.specs.Living.{living, IsTold}
use Rattle.nx_group.proofs.Ending.{code_is, told_nobody, told_someone}
use Rattle.nx_group.proofs.ends.tell_parent.Goals as goal

pub returns-then-parent-eq0-clause-told : goal.returns-then-parent-eq0-clause-told
returns-then-parent-eq0-clause-told c = λ k. told_nobody c.args.code _ _ (sym c.parent-parent.ensures ∙ c.if-parent-eq0.true)

pub returns-clause-told : goal.returns-clause-told
returns-clause-told c = λ k.
    let told = told_someone (record { parent = c.parent-parent.result; child = c.child.result; code = c.code.result }) k _ _ _ _ _ _ _ _ _ c.if-parent-eq0.false (c.hand_over.ensures.told k c.args.groups.now) c.refuse_lost.ensures.state c.refuse_lost.ensures.told in
    subst (λ q. IsTold (replies_of c.args.replies.now.replies) (replies_of c.refuse_lost.new.replies.replies) (living k c.refuse_lost.new.threads c.args.groups.now c.hand_over.new.codes.codes) (told_parent q (living k c.args.threads.now c.args.groups.now c.args.codes.now.codes)))
    (code_is c.args.code _ _ _ c.parent-parent.ensures c.child.ensures c.code.ensures) told
