use Rattle.std.proofs.Common.{◌≡◌, length, sym, ap, ◌∙◌, arith}
use Rattle.nx_ksys.specs.Gathered.{replies_of}
use Rattle.nx_ktables.specs.State.{state_of}
use Rattle.nx_kturns.proofs.Ended.{place_joined, may_end, ended_none, ended_some}
use Rattle.nx_kturns.proofs.killing.end_with.Goals as goal

pub returns-in-None-clause-told : goal.returns-in-None-clause-told
returns-in-None-clause-told g c =
    let old = c.args.tables.now in
    let k = state_of (g.B.BlockStore.content c.args.blocks.now) old in
    ended_none k c.args.code c.args.thread.group _ (ap replies_of c.requires.none) (place_joined old.groups old.environments c.args.thread.group ∙ sym c.place_of.ensures ∙ c.in-None.is)

pub returns-in-Some-clause-told : goal.returns-in-Some-clause-told
returns-in-Some-clause-told g c =
    let old = c.args.tables.now in
    let k = state_of (g.B.BlockStore.content c.args.blocks.now) old in
    ended_some _ _ _ k c.args.code c.args.thread.group c.in-Some.place (ap replies_of c.requires.none) (place_joined old.groups old.environments c.args.thread.group ∙ sym c.place_of.ensures ∙ c.in-Some.is) c.end_group.ensures.told

pub end_group-requires-clause-place : goal.end_group-requires-clause-place
end_group-requires-clause-place g c =
    let store = g.B.BlockStore in
    let at = c.args.blocks.now in
    let m = may_end (store.holds at) (store.content at) (store.blocks at) c.args.tables.now c.requires.stands c.args.thread.group c.in-Some.place (sym c.place_of.ensures ∙ c.in-Some.is) in
    m.within

pub end_group-requires-clause-groups : goal.end_group-requires-clause-groups
end_group-requires-clause-groups g c =
    let store = g.B.BlockStore in
    let at = c.args.blocks.now in
    let m = may_end (store.holds at) (store.content at) (store.blocks at) c.args.tables.now c.requires.stands c.args.thread.group c.in-Some.place (sym c.place_of.ensures ∙ c.in-Some.is) in
    m.groups

pub end_group-requires-clause-number : goal.end_group-requires-clause-number
end_group-requires-clause-number g c =
    let store = g.B.BlockStore in
    let at = c.args.blocks.now in
    let m = may_end (store.holds at) (store.content at) (store.blocks at) c.args.tables.now c.requires.stands c.args.thread.group c.in-Some.place (sym c.place_of.ensures ∙ c.in-Some.is) in
    m.number

pub end_group-requires-clause-moments : goal.end_group-requires-clause-moments
end_group-requires-clause-moments g c =
    let store = g.B.BlockStore in
    let at = c.args.blocks.now in
    let m = may_end (store.holds at) (store.content at) (store.blocks at) c.args.tables.now c.requires.stands c.args.thread.group c.in-Some.place (sym c.place_of.ensures ∙ c.in-Some.is) in
    m.moments

pub end_group-requires-clause-codes : goal.end_group-requires-clause-codes
end_group-requires-clause-codes g c =
    let store = g.B.BlockStore in
    let at = c.args.blocks.now in
    let m = may_end (store.holds at) (store.content at) (store.blocks at) c.args.tables.now c.requires.stands c.args.thread.group c.in-Some.place (sym c.place_of.ensures ∙ c.in-Some.is) in
    m.codes

pub end_group-requires-clause-ends : goal.end_group-requires-clause-ends
end_group-requires-clause-ends g c =
    let store = g.B.BlockStore in
    let at = c.args.blocks.now in
    let m = may_end (store.holds at) (store.content at) (store.blocks at) c.args.tables.now c.requires.stands c.args.thread.group c.in-Some.place (sym c.place_of.ensures ∙ c.in-Some.is) in
    m.ends

pub end_group-requires-clause-room : goal.end_group-requires-clause-room
end_group-requires-clause-room g c =
    let n : length c.args.replies.now.replies ≡ 0 = ap length c.requires.none in
    omega (arith, n, c.requires.room)
