use Rattle.std.proofs.Common.{refl, ap, ◌∙◌}
use Rattle.nx_ksys.specs.Descriptors.{kept_if}
use Rattle.nx_ipc.specs.Tables.{queues_of}
use Rattle.nx_objects.specs.Tables.{with_objects}
use Rattle.nx_objects.proofs.Chains.{queues_held, queues_moved, files_stay}
use Rattle.nx_objects.proofs.objects.Objects.sweep_queue.Goals as goal

pub sweep-requires : goal.sweep-requires
sweep-requires g c = record { held = queues_held (g.B.BlockStore.holds c.args.blocks.now) c.args.self.now.files c.args.self.now.queues c.requires.held }

pub returns-clause-state : goal.returns-clause-state
returns-clause-state g c = λ k.
    let old = c.args.self.now in
    let content = g.B.BlockStore.content c.args.blocks.now in
    let lives = c.queue_lives-lives.ensures k content in
    let queues = c.sweep.ensures.queues ∙ ap (λ b. kept_if b (queues_of content old.queues.queues) c.args.place) lives in
    let sending = c.sweep.ensures.sending in
    let files = files_stay _ _ _ _ old.files old.queues c.sweep.new.self c.requires.held c.sweep.ensures.moves in
    (λ i. record (with_objects k c.args.threads.now content old) { tree = record { entries = old.tree.entries; files = files i }; queues = queues i; sending = sending i })

pub returns-clause-held : goal.returns-clause-held
returns-clause-held g c = queues_moved _ _ _ _ c.args.self.now.files c.args.self.now.queues c.sweep.new.self c.requires.held c.sweep.ensures.moves

pub returns-clause-places : goal.returns-clause-places
returns-clause-places g c = record { descriptors = refl; descriptions = refl; queues = c.sweep.ensures.places; semaphores = refl; paths = refl }
