use Rattle.std.proofs.Common.{length, refl, ap, ◌∙◌}
use Rattle.nx_ksys.specs.Descriptors.{kept_if}
use Rattle.nx_objects.specs.Tables.{with_objects}
use Rattle.nx_objects.proofs.Places.{length-kept}
use Rattle.nx_objects.proofs.objects.Objects.sweep_semaphore.Goals as goal

pub returns-clause-state : goal.returns-clause-state
returns-clause-state c = λ k content.
    let lives = ap (λ b. kept_if b c.args.self.now.semaphores c.args.place) (c.semaphore_lives-lives.ensures k content) in
    ap (λ ss. record (with_objects k c.args.threads.now content c.args.self.now) { semaphores = ss }) (c.sweep.ensures ∙ lives)

pub returns-clause-places : goal.returns-clause-places
returns-clause-places c = record {
  descriptors = refl;
  descriptions = refl;
  queues = refl;
  semaphores = ap length c.sweep.ensures ∙ length-kept _ c.args.self.now.semaphores c.args.place;
  paths = refl;
}
