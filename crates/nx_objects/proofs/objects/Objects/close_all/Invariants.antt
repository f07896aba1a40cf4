use Rattle.std.proofs.Common.{◌≡◌, ◌-◌, length}
use Rattle.nx_ksys.specs.State.{KernelState}
use Rattle.nx_ksys.specs.Descriptors.{closed_from}
use Rattle.nx_objects.specs.Tables.{chains_of, with_objects, ArePlaced, SamePlaces}
use Rattle.nx_objects.proofs.objects.Objects.close_all.Given as goal

abbrev pub invariant-loop-fd : goal.invariant-loop-fd
invariant-loop-fd g l =
    let store = g.B.BlockStore in
    record {
      state : (k : KernelState) → closed_from (32 - l.fd) l.fd l.group (with_objects k l.threads (store.content l.blocks) l.self) ≡ closed_from 32 0 l.group (with_objects k l.fn.threads (store.content l.fn.blocks) l.fn.self);
      placed : ArePlaced (length l.threads.threads) l.self;
      held : store.holds l.blocks (chains_of l.self);
      alike : store.alike l.fn.blocks l.blocks;
      places : SamePlaces l.fn.self l.self;
    }
