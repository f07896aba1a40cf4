use Rattle.std.proofs.Common.{ap, ◌∙◌, arith, min}
use Rattle.std.specs.Prelude.{Ok, Some, None, slice_get}
use Rattle.nx_ksys.specs.Threads.{flat}
use Rattle.nx_ipc.specs.declared.received.Received.TheVariants as received
use Rattle.nx_ipc.specs.Tables.{queues_of, queue_in, sending_of, with_tables}
use Rattle.nx_ipc.proofs.Messages.{flat_get, taken_within}
use Rattle.nx_ipc.proofs.Rows.{found, queue_found, receive_some, message_received}
use Rattle.nx_ipc.proofs.queues.Queues.receive.Goals as goal

pub returns-in-None-take_and_join-clause-row : goal.returns-in-None-take_and_join-clause-row
returns-in-None-take_and_join-clause-row g c = λ k caller first slot.
    let content = g.B.BlockStore.content c.args.blocks.now in
    let old = c.args.self.now in
    let there = c.as_slice.ensures.value ∙ ap (λ t. t.queues) c.self.view_is in
    let f = found _ (rw there at c.in-Some.ensures.some) in
    let q = queue_in content f.it in
    let at = queue_found content old.queues c.args.place f.it f.is in
    let limits = (rw there at c.in-Some.ensures.limits) f.it f.is content in
    let stands = flat_get (queues_of content old.queues) c.args.place q at in
    let whole = with_tables k content old in
    let row = c.may_receive.ensures whole caller c.args.place q limits.0 in
    let none = c.in-None-take_and_join.ensures in
    rw (none.same.0, none.same.1)
    (receive_some whole whole caller c.args.size c.args.place c.args.flags c.args.ticks c.take_and_join.new.into c.args.sender _ q c.may_receive.result None c.in-Ok.field-0 c.receive_none.result at c.in-Ok.is (none.none q stands) row
    (c.receive_none.ensures.row whole caller c.args.place c.args.size q c.take_and_join.new.into c.args.sender))

pub returns-in-None-take_and_join-clause-within : goal.returns-in-None-take_and_join-clause-within
returns-in-None-take_and_join-clause-within g c = c.receive_none.ensures.within (min c.args.size 4096)

pub returns-in-Some-take_and_join-clause-row : goal.returns-in-Some-take_and_join-clause-row
returns-in-Some-take_and_join-clause-row g c = λ k caller first slot.
    let content = g.B.BlockStore.content c.args.blocks.now in
    let old = c.args.self.now in
    let there = c.as_slice.ensures.value ∙ ap (λ t. t.queues) c.self.view_is in
    let f = found _ (rw there at c.in-Some.ensures.some) in
    let q = queue_in content f.it in
    let at = queue_found content old.queues c.args.place f.it f.is in
    let limits = (rw there at c.in-Some.ensures.limits) f.it f.is content in
    let stands = flat_get (queues_of content old.queues) c.args.place q at in
    let whole = with_tables k content old in
    let row = c.may_receive.ensures whole caller c.args.place q limits.0 in
    let n = rw c.min-room.ensures at (c.in-Some-take_and_join.ensures.some q stands) in
    let taken = c.in-Some-take_and_join.taken in
    receive_some whole (with_tables k (g.B.BlockStore.content c.take_and_join.new.blocks) c.take_and_join.new.self) caller c.args.size c.args.place c.args.flags c.args.ticks c.take_and_join.new.into c.args.sender _ q c.may_receive.result (Some n.message) c.in-Ok.field-0 (Ok (received.Message taken)) at c.in-Ok.is n.next row
    (message_received k caller c.args.size c.args.place c.args.flags c.args.ticks c.args.sender c.args.slot c.take_and_join.new.into q taken (queues_of content old.queues) _ (sending_of content old.sending) _ first slot n)

pub returns-in-Some-take_and_join-clause-within : goal.returns-in-Some-take_and_join-clause-within
returns-in-Some-take_and_join-clause-within g c =
    let content = g.B.BlockStore.content c.args.blocks.now in
    let old = c.args.self.now in
    let there = c.as_slice.ensures.value ∙ ap (λ t. t.queues) c.self.view_is in
    let f = found _ (rw there at c.in-Some.ensures.some) in
    let q = queue_in content f.it in
    let at = queue_found content old.queues c.args.place f.it f.is in
    let limits = (rw there at c.in-Some.ensures.limits) f.it f.is content in
    let stands = flat_get (queues_of content old.queues) c.args.place q at in
    let n = c.in-Some-take_and_join.ensures.some q stands in
    omega (arith, c.min-room.ensures, n.taken.count, taken_within c.min-room.result n.message.bytes)
