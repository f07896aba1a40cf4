use Rattle.std.proofs.Common.{◌<◌, ◌≤◌, length, ap, ◌∙◌, arith}
use Rattle.nx_ksys.specs.declared.node.Target.TheVariants as target
use Rattle.nx_ksys.specs.Descriptors.{semaphore_lives, swept_target}
use Rattle.nx_objects.specs.Tables.{with_objects}
use Rattle.nx_objects.proofs.Places.{placed_still, same_then}
use Rattle.nx_objects.proofs.SweptPlaces.{swept_next, swept_all}
use Rattle.nx_objects.proofs.objects.Objects.sweep_semaphores.Goals as goal

pub loop-place-preserved : goal.loop-place-preserved
loop-place-preserved c =
    let inv = c.loop-place.invariant in
    let place = c.loop-place.place in
    record {
      state = λ k content.
          let first = with_objects k c.args.threads.now content c.args.self.now in
          let lt : place < length first.semaphores = omega (arith, c.loop-place-test.true, c.places-count.ensures) in
          c.sweep_semaphore.ensures.state k content ∙ ap (λ s. swept_target s (target.Semaphore place)) (inv.state k content) ∙ ap (λ ss. record first { semaphores = ss }) (swept_next (semaphore_lives first) place first.semaphores lt);
      placed = placed_still _ _ _ inv.placed c.sweep_semaphore.ensures.places;
      chains = c.sweep_semaphore.ensures.chains ∙ inv.chains;
      places = same_then _ _ _ inv.places c.sweep_semaphore.ensures.places;
    }

pub returns-clause-state : goal.returns-clause-state
returns-clause-state c = λ k content.
    let place = c.loop-place.place in
    let first = with_objects k c.args.threads.now content c.args.self.now in
    let le : length first.semaphores ≤ place = omega (arith, c.loop-place-test.false, c.places-count.ensures) in
    c.loop-place.invariant.state k content ∙ ap (λ ss. record first { semaphores = ss }) (swept_all (semaphore_lives first) 0 place first.semaphores le)
