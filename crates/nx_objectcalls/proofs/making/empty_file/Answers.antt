use Rattle.nx_objects.specs.Tables.{with_objects}
use Rattle.nx_objects.proofs.Chains.{files_held, queues_stay, sending_stays}
use Rattle.nx_objectcalls.proofs.making.empty_file.Goals as goal

pub set_empty-requires : goal.set_empty-requires
set_empty-requires g c = record { held = files_held (g.B.BlockStore.holds c.args.blocks.now) c.args.objects.now.files c.args.objects.now.queues c.requires.held }

pub returns-clause-state : goal.returns-clause-state
returns-clause-state g c = λ k s.
    let old = c.args.objects.now in
    let content = g.B.BlockStore.content c.args.blocks.now in
    let queues = queues_stay _ _ _ _ old.files c.set_empty.new.self old.queues c.requires.held c.set_empty.ensures.moves in
    let sending = sending_stays _ _ _ _ old.files c.set_empty.new.self old.queues c.requires.held c.set_empty.ensures.moves in
    (λ i. record (with_objects k s content old) { tree = record { entries = old.tree.entries; files = c.set_empty.ensures.files i }; queues = queues i; sending = sending i })
