use Rattle.std.proofs.Common.{ap, ◌∙◌}
use Rattle.nx_kernel.specs.Doing.{caller_of}
use Rattle.nx_ktables.specs.State.{state_of, others_of}
use Rattle.nx_ktables.proofs.Answering.{does_as, standing}
use Rattle.nx_ksys.proofs.Standing.{some_same}
use Rattle.nx_env.specs.Joined.{with_variables}
use Rattle.nx_ksys.specs.FileCalls.{open_row}
use Rattle.nx_path.specs.Rows.{answered}
use Rattle.nx_kcalls.proofs.file_calls.open_file.Goals as goal

pub open_file-new-requires-clause-room : goal.open_file-new-requires-clause-room
open_file-new-requires-clause-room g c = λ e.
    let old = c.args.tables.now in
    let content = g.B.BlockStore.content c.args.blocks.now in
    c.requires.paths content (c.is_full-full.ensures (others_of old) old.threads content ∙ e)

pub returns-in-Some-clause-does : goal.returns-in-Some-clause-does
returns-in-Some-clause-does g c = λ h variables e.
    let store = g.B.BlockStore in
    let old = c.args.tables.now in
    let k = state_of (store.content c.args.blocks.now) old in
    let now = state_of (store.content c.open_file-new.new.blocks) (record old { objects = c.open_file-new.new.objects }) in
    let group = with_variables h variables in
    let who = caller_of c.args.caller c.args.place group in
    let same = some_same _ _ (c.in-Some.ensures ∙ e) in
    let path = c.directory.ensures.path ∙ ap (λ x. x.directory) same in
    does_as _ _ _ _ _ (standing (λ x. open_row k x c.args.text.now c.args.flags) (λ x. answered now x c.open_file-new.result) who _ path (c.open_file-new.ensures.row (others_of old) old.threads who (c.is_full-full.ensures (others_of old) old.threads (store.content c.args.blocks.now))))
    (c.answer.ensures.does now c.args.place group)
