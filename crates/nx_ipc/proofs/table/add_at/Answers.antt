use Rattle.std.proofs.Common.{ap, sym, ◌∙◌}
use Rattle.std.specs.Prelude.{Some, slice_set, slice_get}
use Rattle.nx_ksys.specs.QueueCalls.{with_message}
use Rattle.nx_ipc.specs.Tables.{queues_of, message_of}
use Rattle.nx_ipc.proofs.Messages.{none_held, message_is}
use Rattle.nx_ipc.proofs.Joins.{push_moves, queues_kept}
use Rattle.nx_ipc.proofs.table.add_at.Goals as goal

pub store-message-requires-clause-held : goal.store-message-requires-clause-held
store-message-requires-clause-held g c = none_held _ _ c.requires.held

pub returns-clause-queues : goal.returns-clause-queues
returns-clause-queues g c = λ q e.
    let new = g.B.BlockStore.content c.store-message.new.blocks in
    let kept = queues_kept _ _ _ _ c.args.queues.now _ _ c.requires.held c.store-message.ensures.comes in
    c.push_at.ensures.queues new q (ap (λ qs. slice_get qs c.args.place) kept ∙ e)
    ∙ ap (λ qs. slice_set qs c.args.place (Some (with_message q (message_of new c.store-message.result)))) kept
    ∙ ap (λ m. slice_set (queues_of (g.B.BlockStore.content c.args.blocks.now) c.args.queues.now) c.args.place (Some (with_message q m))) (message_is new c.store-message.result c.args.priority c.args.bytes.now c.store-message.ensures.priority c.store-message.ensures.comes.own)

pub returns-clause-moves : goal.returns-clause-moves
returns-clause-moves g c = push_moves _ _ _ _ _ _ _ _ c.store-message.ensures.comes c.push_at.ensures.pushed
