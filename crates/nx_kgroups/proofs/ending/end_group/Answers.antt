use Rattle.nx_ksys.specs.Gathered.{replies_of}
use Rattle.nx_env.specs.Joined.{variables_at, with_variables}
use Rattle.nx_ktables.specs.State.{state_of}
use Rattle.nx_kgroups.proofs.Members.{joined_none, joined_some, none_ends, one_ends, member_ends}
use Rattle.nx_kgroups.proofs.ending.end_group.Goals as goal

pub returns-in-None-clause-told : goal.returns-in-None-clause-told
returns-in-None-clause-told g c =
    let old = c.args.tables.now in
    none_ends _ (state_of (g.B.BlockStore.content c.args.blocks.now) old) c.args.place c.args.code (joined_none old.groups old.environments c.args.place c.in-None.ensures)

pub returns-in-Some-clause-told : goal.returns-in-Some-clause-told
returns-in-Some-clause-told g c =
    let store = g.B.BlockStore in
    let old = c.args.tables.now in
    let k = state_of (store.content c.args.blocks.now) old in
    let now = state_of (store.content c.end_member.new.blocks) c.end_member.new.tables in
    let before = replies_of c.args.replies.now.replies in
    let after = replies_of c.end_member.new.replies.replies in
    let place = c.args.place in
    let h = with_variables c.in-Some.group.now (variables_at old.environments place) in
    let m = c.member_of-member.ensures in
    let who = c.member_of-member.result in
    one_ends before after now k place c.args.code h (joined_some old.groups old.environments place c.in-Some.group.now c.in-Some.ensures)
    (member_ends before after now k place c.args.code h who.number who.program who.parent m.number m.program m.parent c.end_member.ensures.told)
