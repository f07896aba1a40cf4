use Rattle.std.proofs.Common.{sym, ap, ◌∙◌}
use Rattle.nx_ksys.specs.Gathered.{replies_of}
use Rattle.nx_ktables.specs.State.{state_of}
use Rattle.nx_kturns.proofs.Passing.{lives_joined, none_picks, one_picks}
use Rattle.nx_kturns.proofs.Reached.{chosen_stands}
use Rattle.nx_kturns.proofs.choosing.pick.Goals as goal

pub returns-then-not-any-clause-picks : goal.returns-then-not-any-clause-picks
returns-then-not-any-clause-picks g c =
    let old = c.args.tables.now in
    none_picks (state_of (g.B.BlockStore.content c.args.blocks.now) old) _ (ap (λ x. replies_of x.replies) c.clear.ensures) (lives_joined old.groups old.environments ∙ sym c.any.ensures ∙ c.if-not-any.true)

pub returns-clause-picks : goal.returns-clause-picks
returns-clause-picks g c =
    let old = c.args.tables.now in
    let now = state_of (g.B.BlockStore.content c.pass.new.blocks) c.pass.new.tables in
    let p = one_picks (state_of (g.B.BlockStore.content c.args.blocks.now) old) now _ (lives_joined old.groups old.environments ∙ sym c.any.ensures ∙ c.if-not-any.false) c.pass.ensures.told in
    record { state = p.state; replies = p.replies; pick = c.choose.ensures ∙ p.pick }

pub returns-clause-stands : goal.returns-clause-stands
returns-clause-stands g c =
    let store = g.B.BlockStore in
    let old = c.args.tables.now in
    let first = c.args.blocks.now in
    let last = c.pass.new.blocks in
    let now = state_of (store.content last) c.pass.new.tables in
    let p = one_picks (state_of (store.content first) old) now _ (lives_joined old.groups old.environments ∙ sym c.any.ensures ∙ c.if-not-any.false) c.pass.ensures.told in
    chosen_stands (store.holds first) (store.holds last) (store.content first) (store.content last) (store.blocks first) (store.blocks last) old c.pass.new.tables c.requires.stands
    (sym (g.met.B.BlockStore.same_blocks first last c.pass.ensures.alike)) c.pass.ensures.held c.pass.ensures.rooms c.pass.ensures.calls p.state
