use Rattle.std.proofs.Common.{[], sym, ap, ◌∙◌}
use Rattle.nx_ksys.specs.declared.node.Target.TheVariants as target
use Rattle.nx_ksys.specs.Answers.{replied}
use Rattle.nx_ksys.specs.Paths.{entries_but}
use Rattle.nx_ksys.specs.Descriptors.{swept_target}
use Rattle.nx_ksys.specs.QueueCalls.{mq_unlink_node}
use Rattle.nx_ipc.specs.Rows.{unlinks_told}
use Rattle.nx_objects.specs.Tables.{with_objects}
use Rattle.nx_objectcalls.proofs.queue_calls.unlink_at.Goals as goal

pub returns-in-Err-clause-row : goal.returns-in-Err-clause-row
returns-in-Err-clause-row g c = λ k d.
    let path = c.args.path.items in
    let old = with_objects k c.args.threads.now (g.B.BlockStore.content c.args.blocks.now) c.args.objects.now in
    ap (mq_unlink_node old d path) (sym c.find.ensures) ∙ c.queue_of_node.ensures old d path ∙ ap (unlinks_told old d path) c.in-Err.is

pub returns-in-Ok-clause-row : goal.returns-in-Ok-clause-row
returns-in-Ok-clause-row g c = λ k d.
    let path = c.args.path.items in
    let o = c.args.objects.now in
    let old = with_objects k c.args.threads.now (g.B.BlockStore.content c.args.blocks.now) o in
    let entries = ap (λ t. t.entries) c.remove.ensures ∙ ap (λ p. entries_but p o.tree.entries) c.as_slice.ensures.value in
    ap (mq_unlink_node old d path) (sym c.find.ensures)
    ∙ c.queue_of_node.ensures old d path
    ∙ ap (unlinks_told old d path) c.in-Ok.is
    ∙ ap (λ es. replied (swept_target (record old { tree = record old.tree { entries = es } }) (target.Queue c.in-Ok.place)) d 0 []) (sym entries)
    ∙ ap (λ x. replied x d 0 []) (sym (c.sweep_target.ensures.state k))

pub returns-in-Ok-clause-limit : goal.returns-in-Ok-clause-limit
returns-in-Ok-clause-limit g c = c.sweep_target.ensures.places.paths ∙ ap (λ t. t.limit) c.remove.ensures
