use Rattle.std.proofs.Common.{sym, ap, ◌∙◌}
use Rattle.nx_ipc.specs.Tables.{with_tables}
use Rattle.nx_ipc.specs.Rows.{send_told}
use Rattle.nx_objects.specs.Tables.{with_objects}
use Rattle.nx_objects.proofs.Chains.{queues_held, files_stay}
use Rattle.nx_objectcalls.proofs.messages.send_message.Goals as goal

pub send-requires-clause-held : goal.send-requires-clause-held
send-requires-clause-held g c = queues_held (g.B.BlockStore.holds c.args.blocks.now) c.args.objects.now.files c.args.objects.now.queues c.requires.held

pub returns-clause-row : goal.returns-clause-row
returns-clause-row g c = λ k s d free receiver slot.
    let store = g.B.BlockStore in
    let o = c.args.objects.now in
    let old = with_objects k s (store.content c.args.blocks.now) o in
    let now = with_tables old (store.content c.send.new.blocks) c.send.new.self in
    let files = files_stay _ _ _ _ o.files o.queues c.send.new.self c.requires.held c.send.ensures.moves in
    c.send.ensures.row old d free receiver slot
    ∙ ap (λ fs. send_told (record now { tree = record { entries = o.tree.entries; files = fs } }) d c.args.led.place (record { priority = c.args.priority; bytes = c.args.bytes.now }) c.send.result) (sym files)
