use Rattle.std.proofs.Common.{length}
use Rattle.std.specs.Prelude.{flat_map}
use Rattle.nx_pool.specs.Moves.{AreHeld, Moves}
use Rattle.nx_ipc.specs.Tables.{chain_in}
use Rattle.nx_ipc.proofs.queue.give_all.Given as goal

abbrev pub invariant-loop-message : goal.invariant-loop-message
invariant-loop-message g l =
    let store = g.B.BlockStore in
    record {
      held : AreHeld (store.holds l.blocks) (flat_map chain_in l.left.items);
      moves : Moves (store.holds l.fn.blocks) (store.holds l.blocks) (store.content l.fn.blocks) (store.content l.blocks) (flat_map chain_in l.fn.messages.items) (flat_map chain_in l.left.items);
      alike : store.alike l.fn.blocks l.blocks;
    }

abbrev pub decreases-loop-message : goal.decreases-loop-message
decreases-loop-message g l = length l.left.items
