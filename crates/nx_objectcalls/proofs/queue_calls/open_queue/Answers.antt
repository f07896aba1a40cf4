use Rattle.std.proofs.Common.{ap, ◌∙◌}
use Rattle.nx_ipc.specs.Rows.{opens_path}
use Rattle.nx_objects.specs.Tables.{with_objects}
use Rattle.nx_objects.specs.Rows.{at_place}
use Rattle.nx_objectcalls.proofs.queue_calls.open_queue.Goals as goal

pub returns-in-Err-clause-row : goal.returns-in-Err-clause-row
returns-in-Err-clause-row c = λ k s content d full.
    let a = c.args in
    let old = with_objects k s content a.objects.now in
    let who = at_place d a.group in
    c.opening_path.ensures old who a.limit a.size ∙ ap (opens_path old who a.flags a.limit a.size) c.in-Err.is

pub returns-in-Ok-clause-row : goal.returns-in-Ok-clause-row
returns-in-Ok-clause-row c = λ k s content d full.
    let a = c.args in
    let old = with_objects k s content a.objects.now in
    let who = at_place d a.group in
    c.opening_path.ensures old who a.limit a.size ∙ ap (opens_path old who a.flags a.limit a.size) c.in-Ok.is ∙ c.open_at.ensures.row k s content d full
