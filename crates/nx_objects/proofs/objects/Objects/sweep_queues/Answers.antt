use Rattle.std.proofs.Common.{◌<◌, ◌≤◌, length, ap, ◌∙◌, arith}
use Rattle.std.proofs.lemmas.List.{length-map}
use Rattle.nx_ksys.specs.declared.node.Target.TheVariants as target
use Rattle.nx_ksys.specs.Descriptors.{queue_lives, swept_target}
use Rattle.nx_ipc.specs.Tables.{queue_seen}
use Rattle.nx_objects.specs.Tables.{with_objects}
use Rattle.nx_objects.proofs.Places.{placed_still, same_then}
use Rattle.nx_objects.proofs.SweptPlaces.{swept_next, swept_all}
use Rattle.nx_objects.proofs.objects.Objects.sweep_queues.Goals as goal

pub loop-place-preserved : goal.loop-place-preserved
loop-place-preserved g c =
    let store = g.B.BlockStore in
    let inv = c.loop-place.invariant in
    let place = c.loop-place.place in
    record {
      state = λ k.
          let first = with_objects k c.args.threads.now (store.content c.args.blocks.now) c.args.self.now in
          let lt : place < length first.queues = omega (arith, c.loop-place-test.true, c.places-count.ensures, length-map c.args.self.now.queues.queues (queue_seen (store.content c.args.blocks.now))) in
          c.sweep_queue.ensures.state k ∙ ap (λ s. swept_target s (target.Queue place)) (inv.state k) ∙ ap (λ qs. record first { queues = qs }) (swept_next (queue_lives first) place first.queues lt);
      placed = placed_still _ _ _ inv.placed c.sweep_queue.ensures.places;
      held = c.sweep_queue.ensures.held;
      alike = g.met.B.BlockStore.alike_transitive _ _ _ inv.alike c.sweep_queue.ensures.alike;
      places = same_then _ _ _ inv.places c.sweep_queue.ensures.places;
    }

pub returns-clause-state : goal.returns-clause-state
returns-clause-state g c = λ k.
    let store = g.B.BlockStore in
    let place = c.loop-place.place in
    let first = with_objects k c.args.threads.now (store.content c.args.blocks.now) c.args.self.now in
    let le : length first.queues ≤ place = omega (arith, c.loop-place-test.false, c.places-count.ensures, length-map c.args.self.now.queues.queues (queue_seen (store.content c.args.blocks.now))) in
    c.loop-place.invariant.state k ∙ ap (λ qs. record first { queues = qs }) (swept_all (queue_lives first) 0 place first.queues le)
