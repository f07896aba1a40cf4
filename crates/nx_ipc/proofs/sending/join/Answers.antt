use Rattle.std.proofs.Common.{ap, sym, ◌∙◌, arith}
use Rattle.std.specs.Prelude.{Some, None, slice_set}
use Rattle.std.proofs.lemmas.List.{map-set, length-map}
use Rattle.nx_ksys.specs.Threads.{flat}
use Rattle.nx_ksys.specs.QueueCalls.{with_sent_message}
use Rattle.nx_ipc.specs.Tables.{sent_of, sending_of, message_of, queues_of}
use Rattle.nx_ipc.proofs.Messages.{place_of, some_at, set_same, set_past, get_past, get_map}
use Rattle.nx_ipc.proofs.Joins.{join_moves, stays}
use Rattle.nx_ipc.proofs.sending.join.Goals as goal

pub returns-then-slot-sending-clause-queues : goal.returns-then-slot-sending-clause-queues
returns-then-slot-sending-clause-queues g c = λ q e.
    let content = g.B.BlockStore.content c.args.blocks.now in
    stays (queues_of content c.args.queues.now) c.args.place q _ e (ap flat (get_past (sending_of content c.args.sending.now) c.args.slot (omega (arith, length-map c.args.sending.now (sent_of content)))))

pub returns-then-slot-sending-clause-sending : goal.returns-then-slot-sending-clause-sending
returns-then-slot-sending-clause-sending g c =
    let content = g.B.BlockStore.content c.args.blocks.now in
    sym (set_past (sending_of content c.args.sending.now) c.args.slot None (omega (arith, length-map c.args.sending.now (sent_of content))))

pub returns-in-None-clause-queues : goal.returns-in-None-clause-queues
returns-in-None-clause-queues g c = λ q e.
    let content = g.B.BlockStore.content c.args.blocks.now in
    let at = place_of c.args.sending.now c.args.slot None None (omega arith) (sym c.replace.ensures.value ∙ c.in-None.is) in
    stays (queues_of content c.args.queues.now) c.args.place q _ e (ap flat (get_map (sent_of content) c.args.sending.now c.args.slot None at))

pub returns-in-None-clause-sending : goal.returns-in-None-clause-sending
returns-in-None-clause-sending g c = rw c.replace.ensures.after (map-set (sent_of (g.B.BlockStore.content c.args.blocks.now)) c.args.sending.now c.args.slot None)

pub returns-in-Some-clause-queues : goal.returns-in-Some-clause-queues
returns-in-Some-clause-queues g c = λ q e.
    let content = g.B.BlockStore.content c.args.blocks.now in
    let at = some_at c.args.sending.now c.args.slot c.in-Some.message (sym c.replace.ensures.value ∙ c.in-Some.is) in
    c.push_at.ensures.queues content q e
    ∙ ap (λ m. slice_set (queues_of content c.args.queues.now) c.args.place (Some (with_sent_message q m))) (sym (ap flat (get_map (sent_of content) c.args.sending.now c.args.slot (Some c.in-Some.message) at)))

pub returns-in-Some-clause-sending : goal.returns-in-Some-clause-sending
returns-in-Some-clause-sending g c = rw c.replace.ensures.after (map-set (sent_of (g.B.BlockStore.content c.args.blocks.now)) c.args.sending.now c.args.slot None)

pub returns-in-Some-clause-moves : goal.returns-in-Some-clause-moves
returns-in-Some-clause-moves g c =
    let at = some_at c.args.sending.now c.args.slot c.in-Some.message (sym c.replace.ensures.value ∙ c.in-Some.is) in
    rw c.replace.ensures.after (join_moves _ _ _ _ c.args.sending.now c.args.slot c.in-Some.message at (omega arith) c.push_at.ensures.pushed (λ xs ys us vs m e h. g.met.B.BlockStore.moved c.args.blocks.now xs ys us vs m e h))
