use Rattle.std.proofs.Common.{ap, sym, ◌∙◌, refl}
use Rattle.std.specs.Prelude.{Ok, Err, slice_get}
use Rattle.nx_ksys.specs.Threads.{flat}
use Rattle.nx_ksys.specs.State as state
use Rattle.nx_ksys.specs.QueueCalls.{QueueAt}
use Rattle.nx_ipc.specs.declared.sent.Sent.TheVariants as sent
use Rattle.nx_ipc.specs.Tables.{queues_of, queue_in, sending_of, with_tables}
use Rattle.nx_ipc.specs.Rows.{sends}
use Rattle.nx_ipc.proofs.Messages.{flat_get}
use Rattle.nx_ipc.proofs.Rows.{found, queue_found, send_some, told_joined, told_waits}
use Rattle.nx_ipc.proofs.queues.Queues.send.Goals as goal

pub returns-in-Err-clause-row : goal.returns-in-Err-clause-row
returns-in-Err-clause-row g c = λ k caller free first slot.
    let content = g.B.BlockStore.content c.args.blocks.now in
    let old = c.args.self.now in
    let there = c.as_slice.ensures.value ∙ ap (λ t. t.queues) c.self.view_is in
    let f = found _ (rw there at c.in-Some.ensures.some) in
    let q = queue_in content f.it in
    let at = queue_found content old.queues c.args.place f.it f.is in
    let limits = (rw there at c.in-Some.ensures.limits) f.it f.is content in
    let m : state.Message = record { priority = c.args.priority; bytes = c.args.bytes.now } in
    let whole = with_tables k content old in
    let row = c.way_to_send.ensures.row whole caller c.args.place q m limits.0 limits.1 refl refl (free ∙ sym c.free.ensures) first in
    let way : QueueAt = record { place = c.args.place; flags = c.args.flags; queue = q } in
    send_some whole whole caller m c.args.size c.args.place c.args.flags _ q (Err c.in-Err.fault) at (row ∙ ap (λ r. sends whole caller way m r) (c.in-Err.is)) refl

pub returns-in-Ok-Delivered-clause-row : goal.returns-in-Ok-Delivered-clause-row
returns-in-Ok-Delivered-clause-row g c = λ k caller free first slot.
    let content = g.B.BlockStore.content c.args.blocks.now in
    let old = c.args.self.now in
    let there = c.as_slice.ensures.value ∙ ap (λ t. t.queues) c.self.view_is in
    let f = found _ (rw there at c.in-Some.ensures.some) in
    let q = queue_in content f.it in
    let at = queue_found content old.queues c.args.place f.it f.is in
    let limits = (rw there at c.in-Some.ensures.limits) f.it f.is content in
    let m : state.Message = record { priority = c.args.priority; bytes = c.args.bytes.now } in
    let whole = with_tables k content old in
    let row = c.way_to_send.ensures.row whole caller c.args.place q m limits.0 limits.1 refl refl (free ∙ sym c.free.ensures) first in
    let way : QueueAt = record { place = c.args.place; flags = c.args.flags; queue = q } in
    send_some whole whole caller m c.args.size c.args.place c.args.flags _ q (Ok (sent.Delivered c.in-Ok-Delivered.thread)) at (row ∙ ap (λ r. sends whole caller way m r) (c.in-Ok-Delivered.is ∙ ap Ok c.in-Ok-Delivered.field-0-is)) refl

pub returns-in-Ok-Joined-clause-row : goal.returns-in-Ok-Joined-clause-row
returns-in-Ok-Joined-clause-row g c = λ k caller free first slot.
    let content = g.B.BlockStore.content c.args.blocks.now in
    let old = c.args.self.now in
    let there = c.as_slice.ensures.value ∙ ap (λ t. t.queues) c.self.view_is in
    let f = found _ (rw there at c.in-Some.ensures.some) in
    let q = queue_in content f.it in
    let at = queue_found content old.queues c.args.place f.it f.is in
    let limits = (rw there at c.in-Some.ensures.limits) f.it f.is content in
    let m : state.Message = record { priority = c.args.priority; bytes = c.args.bytes.now } in
    let whole = with_tables k content old in
    let row = c.way_to_send.ensures.row whole caller c.args.place q m limits.0 limits.1 refl refl (free ∙ sym c.free.ensures) first in
    let way : QueueAt = record { place = c.args.place; flags = c.args.flags; queue = q } in
    send_some whole _ caller m c.args.size c.args.place c.args.flags _ q (Ok sent.Joined) at (row ∙ ap (λ r. sends whole caller way m r) (c.in-Ok-Joined.is ∙ ap Ok c.in-Ok-Joined.field-0-is))
    (told_joined k caller m c.args.place c.args.flags q (queues_of content old.queues) _ (sending_of content old.sending) _ (c.add.ensures.queues q (flat_get (queues_of content old.queues) c.args.place q at)) c.add.ensures.sending)

pub returns-in-Ok-Waits-clause-row : goal.returns-in-Ok-Waits-clause-row
returns-in-Ok-Waits-clause-row g c = λ k caller free first slot.
    let content = g.B.BlockStore.content c.args.blocks.now in
    let old = c.args.self.now in
    let there = c.as_slice.ensures.value ∙ ap (λ t. t.queues) c.self.view_is in
    let f = found _ (rw there at c.in-Some.ensures.some) in
    let q = queue_in content f.it in
    let at = queue_found content old.queues c.args.place f.it f.is in
    let limits = (rw there at c.in-Some.ensures.limits) f.it f.is content in
    let m : state.Message = record { priority = c.args.priority; bytes = c.args.bytes.now } in
    let whole = with_tables k content old in
    let row = c.way_to_send.ensures.row whole caller c.args.place q m limits.0 limits.1 refl refl (free ∙ sym c.free.ensures) first in
    let way : QueueAt = record { place = c.args.place; flags = c.args.flags; queue = q } in
    send_some whole _ caller m c.args.size c.args.place c.args.flags _ q (Ok sent.Waits) at (row ∙ ap (λ r. sends whole caller way m r) (c.in-Ok-Waits.is ∙ ap Ok c.in-Ok-Waits.field-0-is))
    (told_waits k caller m c.args.place c.args.flags c.args.slot q (queues_of content old.queues) _ (sending_of content old.sending) _ slot c.hold.ensures.queues c.hold.ensures.sending)
