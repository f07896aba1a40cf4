use Rattle.std.proofs.Common.{[], refl, sym, ap, ◌∙◌}
use Rattle.nx_ksys.specs.declared.node.Target.TheVariants as target
use Rattle.nx_ksys.specs.State.{objects}
use Rattle.nx_ksys.specs.FileCalls.{with_new_file}
use Rattle.nx_ksys.specs.Answers.{replied}
use Rattle.nx_path.specs.Rows.{in_directory, opens_as, opens_told}
use Rattle.nx_objects.specs.Tables.{with_objects}
use Rattle.nx_objects.specs.Rows.{at_place}
use Rattle.nx_objectcalls.specs.Rows.{described_in}
use Rattle.nx_objectcalls.proofs.Openings.{no_file, no_file_made, by_full, none_left, nothing, nobody}
use Rattle.nx_objectcalls.proofs.open_calls.open_file.Goals as goal

pub carry_out-target-requires-clause-room : goal.carry_out-target-requires-clause-room
carry_out-target-requires-clause-room g c = λ path place e. c.requires.room (by_full c.args.is_full (λ t.
    let a = c.args in
    let content = g.B.BlockStore.content a.blocks.now in
    let k = with_objects nothing nothing.sched content a.objects.now in
    let who = in_directory (at_place nobody a.group) a.directory.now in
    let to = target.File place in
    no_file_made k who a.text.now path.items a.flags place c.in-Some.room.fd c.in-Some.room.place (none_left (objects k))
    (c.open-opened.ensures.row k (at_place nobody a.group) (none_left (objects k) ∙ sym t) (sym (c.free-free.ensures.found content))
    ∙ ap (opens_told k who a.flags) c.in-Ok.is
    ∙ ap (opens_as k who a.flags) e
    ∙ c.find_room.ensures.room k (with_new_file k path.items place) who to a.flags refl refl
    ∙ ap (described_in k (with_new_file k path.items place) who to a.flags) c.in-Some.is)))

pub returns-in-Err-clause-row : goal.returns-in-Err-clause-row
returns-in-Err-clause-row g c = λ k s d full.
    let content = g.B.BlockStore.content c.args.blocks.now in
    let old = with_objects k s content c.args.objects.now in
    let who = in_directory (at_place d c.args.group) c.args.directory.now in
    c.open-opened.ensures.row old (at_place d c.args.group) full (sym (c.free-free.ensures.found content)) ∙ ap (opens_told old who c.args.flags) c.in-Err.is

pub returns-in-None-clause-row : goal.returns-in-None-clause-row
returns-in-None-clause-row g c = λ k s d full.
    let content = g.B.BlockStore.content c.args.blocks.now in
    let old = with_objects k s content c.args.objects.now in
    let who = in_directory (at_place d c.args.group) c.args.directory.now in
    c.open-opened.ensures.row old (at_place d c.args.group) full (sym (c.free-free.ensures.found content))
    ∙ ap (opens_told old who c.args.flags) c.in-Ok.is
    ∙ no_file old who c.args.flags c.in-Ok.what (λ other to flags p q. c.find_room.ensures.room old other who to flags p q ∙ ap (described_in old other who to flags) c.in-None.is)

pub returns-in-Some-clause-row : goal.returns-in-Some-clause-row
returns-in-Some-clause-row g c = λ k s d full.
    let store = g.B.BlockStore in
    let content = store.content c.args.blocks.now in
    let after = store.content c.carry_out-target.new.blocks in
    let old = with_objects k s content c.args.objects.now in
    let mid = with_objects k s after c.carry_out-target.new.objects in
    let who = in_directory (at_place d c.args.group) c.args.directory.now in
    let to = c.carry_out-target.result in
    c.open-opened.ensures.row old (at_place d c.args.group) full (sym (c.free-free.ensures.found content))
    ∙ ap (opens_told old who c.args.flags) c.in-Ok.is
    ∙ c.carry_out-target.ensures.row k s who c.args.flags
    ∙ c.find_room.ensures.room old mid who to c.args.flags (ap (λ o. o.descriptors) c.carry_out-target.ensures.rest) (ap (λ o. o.descriptions) c.carry_out-target.ensures.rest)
    ∙ ap (described_in old mid who to c.args.flags) c.in-Some.is
    ∙ ap (λ o. replied (with_objects k s after o) who c.in-Some.room.fd []) (sym c.describe.ensures)
