use Rattle.std.proofs.Common.{ap, ◌∙◌}
use Rattle.nx_ipc.specs.Rows.{unlinks_path}
use Rattle.nx_objects.specs.Tables.{with_objects}
use Rattle.nx_objectcalls.proofs.queue_calls.unlink_queue.Goals as goal

pub returns-in-Err-clause-row : goal.returns-in-Err-clause-row
returns-in-Err-clause-row g c = λ k d.
    let old = with_objects k c.args.threads.now (g.B.BlockStore.content c.args.blocks.now) c.args.objects.now in
    c.unlinking_path.ensures old d ∙ ap (unlinks_path old d) c.in-Err.is

pub returns-in-Ok-clause-row : goal.returns-in-Ok-clause-row
returns-in-Ok-clause-row g c = λ k d.
    let old = with_objects k c.args.threads.now (g.B.BlockStore.content c.args.blocks.now) c.args.objects.now in
    c.unlinking_path.ensures old d ∙ ap (unlinks_path old d) c.in-Ok.is ∙ c.unlink_at.ensures.row k d
