use Rattle.std.proofs.Common.{sym, ap, ◌∙◌}
use Rattle.nx_ksys.specs.Gathered.{replies_of}
use Rattle.nx_ktables.specs.State.{state_of}
use Rattle.nx_kturns.proofs.Ended.{killed_none, killed_some, killed_stands}
use Rattle.nx_kturns.proofs.killing.kill.Goals as goal

pub returns-in-None-clause-told : goal.returns-in-None-clause-told
returns-in-None-clause-told g c =
    let k = state_of (g.B.BlockStore.content c.args.blocks.now) c.args.tables.now in
    killed_none k c.args.thread c.args.code _ (ap (λ x. replies_of x.replies) c.clear.ensures) (sym c.thread.ensures ∙ c.in-None.is)

pub returns-in-Some-clause-told : goal.returns-in-Some-clause-told
returns-in-Some-clause-told g c =
    let k = state_of (g.B.BlockStore.content c.args.blocks.now) c.args.tables.now in
    killed_some _ _ k c.args.thread c.args.code c.in-Some.found (sym c.thread.ensures ∙ c.in-Some.is) c.end_with.ensures.told

pub returns-in-Some-clause-stands : goal.returns-in-Some-clause-stands
returns-in-Some-clause-stands g c =
    let store = g.B.BlockStore in
    let old = c.args.tables.now in
    let first = c.args.blocks.now in
    let last = c.end_with.new.blocks in
    let k = state_of (store.content first) old in
    let told = killed_some _ (state_of (store.content last) c.end_with.new.tables) k c.args.thread c.args.code c.in-Some.found (sym c.thread.ensures ∙ c.in-Some.is) c.end_with.ensures.told in
    killed_stands (store.holds first) (store.holds last) (store.content first) (store.content last) (store.blocks first) (store.blocks last) old c.end_with.new.tables
    c.args.thread c.args.code c.ranges.code.fits c.requires.stands (sym (g.met.B.BlockStore.same_blocks first last c.end_with.ensures.alike)) c.end_with.ensures.held c.end_with.ensures.rooms told.state
