use Rattle.std.proofs.Common.{ap, ◌∙◌}
use Rattle.nx_kernel.specs.Doing.{caller_of}
use Rattle.nx_ktables.specs.State.{state_of, others_of}
use Rattle.nx_ktables.proofs.Answering.{does_as}
use Rattle.nx_ksys.specs.State.{Message}
use Rattle.nx_ksys.specs.QueueCalls.{mq_send_row, send_on}
use Rattle.nx_objectcalls.specs.Rows.{queue_led}
use Rattle.nx_kcalls.proofs.queue_calls.send.Goals as goal

pub returns-in-None-clause-does : goal.returns-in-None-clause-does
unfolding mq_send_row
returns-in-None-clause-does g c = λ group.
    let old = c.args.tables.now in
    let content = g.B.BlockStore.content c.args.blocks.now in
    let k = state_of content old in
    let who = caller_of c.args.caller c.args.place group in
    let m : Message = record { priority = c.args.priority; bytes = c.args.bytes.now } in
    does_as _ _ _ _ _ (ap (send_on k who m c.args.size) (c.queue_at.ensures (others_of old) old.threads content who ∙ ap (queue_led k) c.in-None.is))
    (c.done.ensures.does k c.args.place group)

pub returns-in-Some-clause-does : goal.returns-in-Some-clause-does
unfolding mq_send_row
returns-in-Some-clause-does g c = λ group.
    let old = c.args.tables.now in
    let content = g.B.BlockStore.content c.args.blocks.now in
    let k = state_of content old in
    let who = caller_of c.args.caller c.args.place group in
    let m : Message = record { priority = c.args.priority; bytes = c.args.bytes.now } in
    does_as _ _ _ _ _ (ap (send_on k who m c.args.size) (c.queue_at.ensures (others_of old) old.threads content who ∙ ap (queue_led k) c.in-Some.is))
    (c.send_to.ensures.does c.args.place group)
