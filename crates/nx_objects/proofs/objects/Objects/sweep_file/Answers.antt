use Rattle.std.proofs.Common.{refl, sym}
use Rattle.nx_objects.specs.Tables.{with_objects}
use Rattle.nx_objects.proofs.Chains.{files_held, files_moved, queues_stay, sending_stays}
use Rattle.nx_objects.proofs.objects.Objects.sweep_file.Goals as goal

pub sweep-requires : goal.sweep-requires
sweep-requires g c = record { held = files_held (g.B.BlockStore.holds c.args.blocks.now) c.args.self.now.files c.args.self.now.queues c.requires }

pub returns-clause-state : goal.returns-clause-state
returns-clause-state g c = λ k s.
    let old = c.args.self.now in
    let content = g.B.BlockStore.content c.args.blocks.now in
    let tree = c.sweep.ensures.swept old.tree.entries old.descriptions (sym c.has_file-is_named.ensures) (sym c.leads_to_file-is_open.ensures) in
    let queues = queues_stay _ _ _ _ old.files c.sweep.new.self old.queues c.requires c.sweep.ensures.moves in
    let sending = sending_stays _ _ _ _ old.files c.sweep.new.self old.queues c.requires c.sweep.ensures.moves in
    (λ i. record (with_objects k s content old) { tree = tree i; queues = queues i; sending = sending i })

pub returns-clause-held : goal.returns-clause-held
returns-clause-held g c = files_moved _ _ _ _ c.args.self.now.files c.sweep.new.self c.args.self.now.queues c.requires c.sweep.ensures.moves

pub returns-clause-places : goal.returns-clause-places
returns-clause-places g c = record { descriptors = refl; descriptions = refl; queues = refl; semaphores = refl; paths = refl }
