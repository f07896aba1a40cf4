use Rattle.std.proofs.Common.{ap, sym, ◌∙◌, arith}
use Rattle.std.specs.List.{position_from}
use Rattle.std.specs.Option.{is_none}
use Rattle.nx_ipc.specs.Tables.{with_tables}
use Rattle.nx_ipc.proofs.Choosing.{free_at}
use Rattle.nx_ipc.proofs.Rows.{free_of_queues}
use Rattle.nx_ipc.proofs.queues.Queues.open.Goals as goal

pub returns-clause-row : goal.returns-clause-row
returns-clause-row c = λ content k d path full.
    let there = c.as_slice.ensures.value ∙ ap (λ t. t.queues) c.self.view_is in
    let first = c.first_free-free.ensures ∙ ap (position_from is_none 0) there in
    c.open_node.ensures.row (with_tables k content c.args.self.now) d path full (free_of_queues content 0 c.args.self.now.queues ∙ sym first)

pub returns-clause-free : goal.returns-clause-free
returns-clause-free c = λ made e.
    let there = c.as_slice.ensures.value ∙ ap (λ t. t.queues) c.self.view_is in
    let first = c.first_free-free.ensures ∙ ap (position_from is_none 0) there in
    free_at 0 made made c.args.self.now.queues (sym first ∙ c.open_node.ensures.free made e) (omega arith)
