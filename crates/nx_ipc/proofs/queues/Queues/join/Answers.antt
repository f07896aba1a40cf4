use Rattle.std.proofs.Common.{◌∙◌}
use Rattle.std.proofs.lemmas.List.{with_items_is}
use Rattle.nx_ipc.proofs.queues.Queues.join.Goals as goal

pub returns-clause-queues : goal.returns-clause-queues
returns-clause-queues g c =
    let first = with_items_is c.self.inside.queues c.join_at.new.queues (c.join_at.auto.queues ∙ c.deref_mut.ensures.len) in
    rw (← c.self.view_is, first) (rw (c.deref_mut.ensures.value, c.deref_mut-2.ensures.value) at c.join_at.ensures.queues)

pub returns-clause-sending : goal.returns-clause-sending
returns-clause-sending g c =
    let second = with_items_is c.self.inside.sending c.join_at.new.sending (c.join_at.auto.sending ∙ c.deref_mut-2.ensures.len) in
    rw (← c.self.view_is, second) (rw c.deref_mut-2.ensures.value at c.join_at.ensures.sending)

pub returns-clause-moves : goal.returns-clause-moves
returns-clause-moves g c =
    let first = with_items_is c.self.inside.queues c.join_at.new.queues (c.join_at.auto.queues ∙ c.deref_mut.ensures.len) in
    let second = with_items_is c.self.inside.sending c.join_at.new.sending (c.join_at.auto.sending ∙ c.deref_mut-2.ensures.len) in
    rw (first, second, ← c.self.view_is) (rw (c.deref_mut.ensures.value, c.deref_mut-2.ensures.value) at c.join_at.ensures.moves)
