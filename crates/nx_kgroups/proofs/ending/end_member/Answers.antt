use Rattle.std.proofs.Common.{subst, ap, ◌∙◌}
use Rattle.nx_ksys.specs.State.{Code, Ending, KernelState}
use Rattle.nx_ksys.specs.Gathered.{replies_of}
use Rattle.nx_ksys.specs.Ends.{without_descriptors, left_alone, recorded, told_parent}
use Rattle.nx_group.specs.Living.{IsTold}
use Rattle.nx_ktables.specs.State.{state_of, others_of}
use Rattle.nx_kgroups.proofs.ending.end_member.Goals as goal

pub returns-clause-told : goal.returns-clause-told
returns-clause-told g c =
    let m = c.args.member in
    let place = c.args.place in
    let content = g.B.BlockStore.content c.close_all.new.blocks in
    let closed = c.close_all.ensures.state (others_of c.vanish.new.tables) ∙ ap (without_descriptors place) c.vanish.ensures.state in
    let left = c.leave.ensures.state content ∙ ap (left_alone place m.number) closed in
    let ended : Ending = record { pid = m.number; name = m.program; code = c.args.code } in
    let whole = ap (λ es. record (state_of content c.leave.new.tables) { ended = es }) (ap (λ x. x.ends) c.add.ensures) ∙ ap (recorded ended) left in
    let before = replies_of c.args.replies.now.replies in
    let after = replies_of c.tell.new.replies.replies in
    let now = state_of content c.tell.new.tables in
    let code : Code = record { parent = m.parent; child = m.number; code = c.args.code } in
    subst (λ (k : KernelState). IsTold before after now (told_parent code k)) whole
    (subst (λ (q : Code). IsTold before after now (told_parent q (state_of content (record c.leave.new.tables { ended = c.add.new.self })))) c.new-code.ensures (c.tell.ensures.told content))
