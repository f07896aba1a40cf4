use Rattle.std.proofs.Common.{◌≡◌, length}
use Rattle.nx_ksys.specs.State.{KernelState}
use Rattle.nx_ksys.specs.Descriptors.{queue_lives}
use Rattle.nx_objects.specs.Tables.{chains_of, with_objects, ArePlaced, SamePlaces}
use Rattle.nx_objects.proofs.SweptPlaces.{swept_to}
use Rattle.nx_objects.proofs.objects.Objects.sweep_queues.Given as goal

abbrev pub invariant-loop-place : goal.invariant-loop-place
invariant-loop-place g l =
    let store = g.B.BlockStore in
    let first : KernelState → KernelState = λ k. with_objects k l.fn.threads (store.content l.fn.blocks) l.fn.self in
    record {
      state : (k : KernelState) → with_objects k l.threads (store.content l.blocks) l.self ≡ record (first k) { queues = swept_to (queue_lives (first k)) 0 l.place (first k).queues };
      placed : ArePlaced (length l.threads.threads) l.self;
      held : store.holds l.blocks (chains_of l.self);
      alike : store.alike l.fn.blocks l.blocks;
      places : SamePlaces l.fn.self l.self;
    }
