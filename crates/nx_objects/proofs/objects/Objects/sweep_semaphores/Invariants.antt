use Rattle.std.proofs.Common.{◌≡◌, ℕ, List, length}
use Rattle.nx_pool.specs.declared.chain.Chain.{Chain}
use Rattle.nx_ksys.specs.State.{KernelState}
use Rattle.nx_ksys.specs.Descriptors.{semaphore_lives}
use Rattle.nx_objects.specs.Tables.{chains_of, with_objects, ArePlaced, SamePlaces}
use Rattle.nx_objects.proofs.SweptPlaces.{swept_to}
use Rattle.nx_objects.proofs.objects.Objects.sweep_semaphores.Given as goal

abbrev pub invariant-loop-place : goal.invariant-loop-place
invariant-loop-place l =
    let first : KernelState → (Chain → List ℕ) → KernelState = λ k content. with_objects k l.fn.threads content l.fn.self in
    record {
      state : (k : KernelState) (content : Chain → List ℕ) → with_objects k l.threads content l.self ≡ record (first k content) { semaphores = swept_to (semaphore_lives (first k content)) 0 l.place (first k content).semaphores };
      placed : ArePlaced (length l.threads.threads) l.self;
      chains : chains_of l.self ≡ chains_of l.fn.self;
      places : SamePlaces l.fn.self l.self;
    }
