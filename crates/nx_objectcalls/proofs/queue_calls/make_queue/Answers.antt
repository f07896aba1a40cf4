use Rattle.std.proofs.Common.{ap}
use Rattle.nx_ipc.specs.Tables.{sending_of}
use Rattle.nx_objects.specs.Tables.{with_objects}
use Rattle.nx_objectcalls.proofs.queue_calls.make_queue.Goals as goal

pub returns-clause-state : goal.returns-clause-state
returns-clause-state c = λ k s content.
    let old = with_objects k s content c.args.objects.now in
    let entries = ap (λ t. t.entries) c.add.ensures in
    let sending = ap (sending_of content) c.make.ensures.sending in
    (λ i. record old { tree = record { entries = entries i; files = old.tree.files }; queues = c.make.ensures.queues content i; sending = sending i })
