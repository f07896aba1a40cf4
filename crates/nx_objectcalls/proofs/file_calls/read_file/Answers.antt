use Rattle.std.proofs.Common.{[], ◌∷◌, take, length, ◌^◌, arith, sym, ap, ◌∙◌}
use Rattle.std.specs.Prelude.{slice_get}
use Rattle.nx_ksys.specs.Answers.{replied}
use Rattle.nx_fs.specs.Rows.{read_told, taken}
use Rattle.nx_objects.specs.Tables.{with_objects}
use Rattle.nx_objectcalls.proofs.Openings.{nothing, nobody}
use Rattle.nx_ksys.specs.Threads.{flat}
use Rattle.nx_fs.specs.Chains.{files_of}
use Rattle.nx_objects.proofs.Chains.{files_held}
use Rattle.nx_objectcalls.proofs.Reading.{counted}
use Rattle.nx_objectcalls.proofs.file_calls.read_file.Goals as goal

pub read-requires : goal.read-requires
read-requires g c = record { held = files_held (g.B.BlockStore.holds c.args.blocks.now) c.args.objects.now.files c.args.objects.now.queues c.requires.held }

pub returns-in-Err-clause-row : goal.returns-in-Err-clause-row
returns-in-Err-clause-row g c = λ k s d.
    let f = c.args.found in
    let old = with_objects k s (g.B.BlockStore.content c.args.blocks.now) c.args.objects.now in
    c.read.ensures old d f.place ∙ ap (λ r. read_told old d f.place f.description (taken r c.read.new.into) r) c.in-Err.is

pub returns-in-Ok-clause-row : goal.returns-in-Ok-clause-row
returns-in-Ok-clause-row g c = λ k s d.
    let f = c.args.found in
    let content = g.B.BlockStore.content c.args.blocks.now in
    let old = with_objects k s content c.args.objects.now in
    c.read.ensures old d f.place
    ∙ ap (λ r. read_told old d f.place f.description (taken r c.read.new.into) r) c.in-Ok.is
    ∙ ap (λ x. replied (with_objects k s content x) d c.in-Ok.count (take c.in-Ok.count c.read.new.into ∷ [])) (sym c.move_to.ensures)

pub overflow_cast-count : goal.overflow_cast-count
overflow_cast-count g c =
    let f = c.args.found in
    let content = g.B.BlockStore.content c.args.blocks.now in
    let k = with_objects nothing nothing.sched content c.args.objects.now in
    let row = c.read.ensures k nobody f.place ∙ ap (λ r. read_told k nobody f.place f.description (taken r c.read.new.into) r) c.in-Ok.is in
    let n = counted k nobody f.place (length c.args.into.now) c.in-Ok.count f.description (flat (slice_get (files_of content c.args.objects.now.files) c.args.file)) (take c.in-Ok.count c.read.new.into) c.requires.short row in
    omega (arith, n.within, c.requires.few)

pub overflow_add-found : goal.overflow_add-found
overflow_add-found g c =
    let f = c.args.found in
    let content = g.B.BlockStore.content c.args.blocks.now in
    let k = with_objects nothing nothing.sched content c.args.objects.now in
    let row = c.read.ensures k nobody f.place ∙ ap (λ r. read_told k nobody f.place f.description (taken r c.read.new.into) r) c.in-Ok.is in
    let n = counted k nobody f.place (length c.args.into.now) c.in-Ok.count f.description (flat (slice_get (files_of content c.args.objects.now.files) c.args.file)) (take c.in-Ok.count c.read.new.into) c.requires.short row in
    let below = n.below (2 ^ 32) (search arith) (omega arith) in
    omega (arith, below)

pub overflow_cast-result : goal.overflow_cast-result
overflow_cast-result g c =
    let f = c.args.found in
    let content = g.B.BlockStore.content c.args.blocks.now in
    let k = with_objects nothing nothing.sched content c.args.objects.now in
    let row = c.read.ensures k nobody f.place ∙ ap (λ r. read_told k nobody f.place f.description (taken r c.read.new.into) r) c.in-Ok.is in
    let n = counted k nobody f.place (length c.args.into.now) c.in-Ok.count f.description (flat (slice_get (files_of content c.args.objects.now.files) c.args.file)) (take c.in-Ok.count c.read.new.into) c.requires.short row in
    omega (arith, n.within, c.requires.few)

pub returns-in-Ok-clause-few : goal.returns-in-Ok-clause-few
returns-in-Ok-clause-few g c =
    let f = c.args.found in
    let content = g.B.BlockStore.content c.args.blocks.now in
    let k = with_objects nothing nothing.sched content c.args.objects.now in
    let row = c.read.ensures k nobody f.place ∙ ap (λ r. read_told k nobody f.place f.description (taken r c.read.new.into) r) c.in-Ok.is in
    let n = counted k nobody f.place (length c.args.into.now) c.in-Ok.count f.description (flat (slice_get (files_of content c.args.objects.now.files) c.args.file)) (take c.in-Ok.count c.read.new.into) c.requires.short row in
    omega (arith, n.within, c.read.auto.into)
