use Rattle.std.proofs.Common.{ap, ◌∙◌}
use Rattle.nx_kernel.specs.Doing.{caller_of}
use Rattle.nx_ktables.specs.State.{state_of, others_of}
use Rattle.nx_ktables.proofs.Answering.{does_as}
use Rattle.nx_ksys.specs.QueueCalls.{receive_on}
use Rattle.nx_objectcalls.specs.Rows.{queue_led}
use Rattle.nx_kcalls.proofs.Receiving.{receives_on}
use Rattle.nx_kcalls.proofs.queue_calls.receive.Goals as goal

pub returns-in-None-clause-does : goal.returns-in-None-clause-does
returns-in-None-clause-does g c = λ group.
    let old = c.args.tables.now in
    let a = c.args in
    let content = g.B.BlockStore.content a.blocks.now in
    let k = state_of content old in
    let who = caller_of a.caller a.place group in
    does_as _ _ _ _ _ (receives_on k who a.fd a.size a.ticks ∙ ap (receive_on k who a.size a.ticks) (c.queue_at.ensures (others_of old) old.threads content who ∙ ap (queue_led k) c.in-None.is))
    (c.done.ensures.does k a.place group)

pub returns-in-Some-clause-does : goal.returns-in-Some-clause-does
returns-in-Some-clause-does g c = λ group.
    let old = c.args.tables.now in
    let a = c.args in
    let content = g.B.BlockStore.content a.blocks.now in
    let k = state_of content old in
    let who = caller_of a.caller a.place group in
    does_as _ _ _ _ _ (receives_on k who a.fd a.size a.ticks ∙ ap (receive_on k who a.size a.ticks) (c.queue_at.ensures (others_of old) old.threads content who ∙ ap (queue_led k) c.in-Some.is))
    (c.receive_from.ensures.does a.place group)
