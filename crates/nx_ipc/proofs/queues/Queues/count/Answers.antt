use Rattle.std.proofs.Common.{ap, ◌∙◌}
use Rattle.std.specs.List.{count_by}
use Rattle.std.specs.Option.{is_some}
use Rattle.nx_ipc.proofs.Rows.{count_of_queues}
use Rattle.nx_ipc.proofs.queues.Queues.count.Goals as goal

pub returns : goal.returns
returns c = λ content.
    let there = c.as_slice.ensures.value ∙ ap (λ t. t.queues) c.self.view_is in
    c.count_queues.ensures ∙ ap (λ qs. count_by is_some qs) there ∙ count_of_queues content c.args.self.now.queues
