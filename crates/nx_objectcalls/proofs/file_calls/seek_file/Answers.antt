use Rattle.std.proofs.Common.{[], sym, ap, ◌∙◌}
use Rattle.nx_ksys.specs.Answers.{replied}
use Rattle.nx_fs.specs.Rows.{seek_told}
use Rattle.nx_objects.specs.Tables.{with_objects}
use Rattle.nx_objectcalls.proofs.file_calls.seek_file.Goals as goal

pub returns-in-Err-clause-row : goal.returns-in-Err-clause-row
returns-in-Err-clause-row c = λ k s content d sized.
    let f = c.args.found in
    let old = with_objects k s content c.args.objects.now in
    c.seek.ensures content sized old d f.place ∙ ap (seek_told old d f.place f.description) c.in-Err.is

pub returns-in-Ok-clause-row : goal.returns-in-Ok-clause-row
returns-in-Ok-clause-row c = λ k s content d sized.
    let f = c.args.found in
    let old = with_objects k s content c.args.objects.now in
    c.seek.ensures content sized old d f.place
    ∙ ap (seek_told old d f.place f.description) c.in-Ok.is
    ∙ ap (λ x. replied (with_objects k s content x) d c.in-Ok.offset []) (sym c.move_to.ensures)
