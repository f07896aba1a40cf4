use Rattle.std.proofs.Common.{[], sym, subst, ap, ◌∙◌}
use Rattle.nx_ksys.specs.Answers.{replied, failed}
use Rattle.nx_ksys.specs.FileCalls.{with_open}
use Rattle.nx_fs.specs.Chains.{files_of}
use Rattle.nx_fs.specs.Rows.{with_files, write_told}
use Rattle.nx_objects.specs.Tables.{chains_of, with_objects}
use Rattle.nx_objects.proofs.Chains.{files_held, files_moved, queues_stay, sending_stays}
use Rattle.nx_objectcalls.proofs.file_calls.write_file.Goals as goal

pub write-requires-clause-held : goal.write-requires-clause-held
write-requires-clause-held g c = files_held (g.B.BlockStore.holds c.args.blocks.now) c.args.objects.now.files c.args.objects.now.queues c.requires.held

pub returns-in-Err-clause-held : goal.returns-in-Err-clause-held
returns-in-Err-clause-held g c = files_moved _ _ _ _ c.args.objects.now.files c.write.new.self c.args.objects.now.queues c.requires.held c.write.ensures.moves

pub returns-in-Ok-clause-held : goal.returns-in-Ok-clause-held
returns-in-Ok-clause-held g c =
    let store = g.B.BlockStore in
    subst (λ o. store.holds c.write.new.blocks (chains_of o)) (sym c.move_to.ensures)
    (files_moved _ _ _ _ c.args.objects.now.files c.write.new.self c.args.objects.now.queues c.requires.held c.write.ensures.moves)

pub returns-in-Err-clause-row : goal.returns-in-Err-clause-row
returns-in-Err-clause-row g c = λ k s d free.
    let store = g.B.BlockStore in
    let o = c.args.objects.now in
    let f = c.args.found in
    let old = with_objects k s (store.content c.args.blocks.now) o in
    let now = with_files old (files_of (store.content c.write.new.blocks) c.write.new.self) in
    let queues = queues_stay _ _ _ _ o.files c.write.new.self o.queues c.requires.held c.write.ensures.moves in
    let sending = sending_stays _ _ _ _ o.files c.write.new.self o.queues c.requires.held c.write.ensures.moves in
    c.write.ensures.row old d f.place free
    ∙ ap (write_told now d f.place f.description) c.in-Err.is
    ∙ (λ i. failed (record now { queues = sym queues i; sending = sym sending i }) d c.in-Err.fault)

pub returns-in-Ok-clause-row : goal.returns-in-Ok-clause-row
returns-in-Ok-clause-row g c = λ k s d free.
    let store = g.B.BlockStore in
    let o = c.args.objects.now in
    let f = c.args.found in
    let m = c.in-Ok.moved in
    let old = with_objects k s (store.content c.args.blocks.now) o in
    let after = store.content c.write.new.blocks in
    let now = with_files old (files_of after c.write.new.self) in
    let queues = queues_stay _ _ _ _ o.files c.write.new.self o.queues c.requires.held c.write.ensures.moves in
    let sending = sending_stays _ _ _ _ o.files c.write.new.self o.queues c.requires.held c.write.ensures.moves in
    c.write.ensures.row old d f.place free
    ∙ ap (write_told now d f.place f.description) c.in-Ok.is
    ∙ (λ i. replied (with_open (record now { queues = sym queues i; sending = sym sending i }) f.place (record f.description { offset = m.end })) d m.count [])
    ∙ ap (λ x. replied (with_objects k s after x) d m.count []) (sym c.move_to.ensures)
