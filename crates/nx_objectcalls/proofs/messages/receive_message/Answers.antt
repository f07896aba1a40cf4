use Rattle.std.proofs.Common.{sym, ap, ◌∙◌}
use Rattle.nx_ipc.specs.Tables.{with_tables}
use Rattle.nx_ipc.specs.Rows.{receive_told}
use Rattle.nx_objects.specs.Tables.{with_objects}
use Rattle.nx_objects.proofs.Chains.{queues_held, files_stay}
use Rattle.nx_objectcalls.proofs.messages.receive_message.Goals as goal

pub receive-requires-clause-held : goal.receive-requires-clause-held
receive-requires-clause-held g c = queues_held (g.B.BlockStore.holds c.args.blocks.now) c.args.objects.now.files c.args.objects.now.queues c.requires.held

pub returns-clause-row : goal.returns-clause-row
returns-clause-row g c = λ k s d sender slot.
    let store = g.B.BlockStore in
    let o = c.args.objects.now in
    let old = with_objects k s (store.content c.args.blocks.now) o in
    let now = with_tables old (store.content c.receive.new.blocks) c.receive.new.self in
    let files = files_stay _ _ _ _ o.files o.queues c.receive.new.self c.requires.held c.receive.ensures.moves in
    c.receive.ensures.row old d sender slot
    ∙ ap (λ fs. receive_told (record now { tree = record { entries = o.tree.entries; files = fs } }) d c.args.led.place c.args.ticks c.receive.new.into c.args.sender c.receive.result) (sym files)
