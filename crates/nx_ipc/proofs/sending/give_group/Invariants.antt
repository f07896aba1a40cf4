use Rattle.std.proofs.Common.{◌≡◌, length, take}
use Rattle.std.specs.Prelude.{flat_map}
use Rattle.nx_pool.specs.Moves.{AreHeld, Moves}
use Rattle.nx_ksys.specs.Ends.{kept_messages}
use Rattle.nx_ipc.specs.Tables.{chains_sent, sending_of}
use Rattle.nx_ipc.proofs.sending.give_group.Given as goal

abbrev pub invariant-loop-slot : goal.invariant-loop-slot
invariant-loop-slot g l =
    let store = g.B.BlockStore in
    record {
      sending : sending_of (store.content l.blocks) l.sending ≡ kept_messages l.group (take l.slot l.threads) (sending_of (store.content l.fn.blocks) l.fn.sending);
      held : AreHeld (store.holds l.blocks) (flat_map chains_sent l.sending);
      moves : Moves (store.holds l.fn.blocks) (store.holds l.blocks) (store.content l.fn.blocks) (store.content l.blocks) (flat_map chains_sent l.fn.sending) (flat_map chains_sent l.sending);
      alike : store.alike l.fn.blocks l.blocks;
      long : length l.sending ≡ length l.fn.sending;
    }
