use Rattle.std.proofs.Common.{◌≡◌, length, sym, ap, subst, ◌∙◌, arith}
use Rattle.nx_ksys.specs.Gathered.{replies_of}
use Rattle.nx_kernel.specs.Waking.{timed}
use Rattle.nx_objects.specs.Tables.{ArePlaced}
use Rattle.nx_ktables.specs.State.{state_of, others_of}
use Rattle.nx_kturns.proofs.Passing.{lives_joined, waiting_few, passed_slots, told_still, told_passed}
use Rattle.nx_kturns.proofs.choosing.pass.Goals as goal

pub advance-requires-clause-room : goal.advance-requires-clause-room
advance-requires-clause-room g c =
    let w = waiting_few c.args.tables.now.threads.threads in
    let n : length c.args.replies.now.replies ≡ 0 = ap length c.requires.none in
    omega (arith, w, n, c.requires.room)

pub returns-then-not-advance-clause-told : goal.returns-then-not-advance-clause-told
returns-then-not-advance-clause-told g c =
    let k = state_of (g.B.BlockStore.content c.args.blocks.now) c.args.tables.now in
    let now = timed k c.advance.new.clock c.advance.new.threads in
    told_still now k c.advance.result _ _ (ap replies_of c.requires.none) c.if-not-advance.true (c.advance.ensures.passed k)

pub sweep_idle-requires-clause-placed : goal.sweep_idle-requires-clause-placed
sweep_idle-requires-clause-placed g c =
    let old = c.args.tables.now in
    let k = state_of (g.B.BlockStore.content c.args.blocks.now) old in
    let now = timed k c.advance.new.clock c.advance.new.threads in
    let slots = passed_slots now k c.advance.result _ _ (lives_joined old.groups old.environments ∙ c.requires.lives) (c.advance.ensures.passed k) in
    subst (λ n. ArePlaced n old.objects) (sym slots) c.requires.stands.placed

pub returns-clause-told : goal.returns-clause-told
returns-clause-told g c =
    let content = g.B.BlockStore.content c.args.blocks.now in
    let old = c.args.tables.now in
    let k = state_of content old in
    let now = timed k c.advance.new.clock c.advance.new.threads in
    let t = record old { clock = c.advance.new.clock; threads = c.advance.new.threads } in
    told_passed now _ k c.advance.result _ _ (ap replies_of c.requires.none) c.if-not-advance.false (c.sweep_idle.ensures.state (others_of t)) (c.advance.ensures.passed k)
