use Rattle.std.proofs.Common.{[], sym, ap, ◌∙◌}
use Rattle.nx_ksys.specs.Answers.{replied}
use Rattle.nx_path.specs.Rows.{in_directory, name_gone}
use Rattle.nx_objects.specs.Tables.{with_objects}
use Rattle.nx_objectcalls.proofs.open_calls.unlink.Goals as goal

pub returns-in-Err-clause-row : goal.returns-in-Err-clause-row
returns-in-Err-clause-row g c = λ k d.
    let old = c.args.objects.now in
    let content = g.B.BlockStore.content c.args.blocks.now in
    let now = with_objects k c.args.threads.now content (record old { tree = c.remove_file.new.self }) in
    c.remove_file.ensures.row (with_objects k c.args.threads.now content old) d ∙ ap (name_gone now (in_directory d c.args.directory.now)) c.in-Err.is

pub returns-in-Ok-clause-row : goal.returns-in-Ok-clause-row
returns-in-Ok-clause-row g c = λ k d.
    let old = c.args.objects.now in
    let content = g.B.BlockStore.content c.args.blocks.now in
    let mid = with_objects k c.args.threads.now content (record old { tree = c.remove_file.new.self }) in
    let who = in_directory d c.args.directory.now in
    c.remove_file.ensures.row (with_objects k c.args.threads.now content old) d
    ∙ ap (name_gone mid who) c.in-Ok.is
    ∙ ap (λ x. replied x who 0 []) (sym (c.sweep_target.ensures.state k))

pub returns-in-Ok-clause-limit : goal.returns-in-Ok-clause-limit
returns-in-Ok-clause-limit g c = c.sweep_target.ensures.places.paths ∙ c.remove_file.ensures.limit
