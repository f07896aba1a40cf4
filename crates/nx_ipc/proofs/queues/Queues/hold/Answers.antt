use Rattle.std.proofs.Common.{◌∙◌}
use Rattle.std.specs.Prelude.{flat_map}
use Rattle.std.proofs.lemmas.List.{with_items_is}
use Rattle.nx_ipc.specs.Tables.{chains_in}
use Rattle.nx_ipc.proofs.Messages.{sending_held, sending_move, queues_same}
use Rattle.nx_ipc.proofs.queues.Queues.hold.Goals as goal

pub hold_at-requires-clause-held : goal.hold_at-requires-clause-held
hold_at-requires-clause-held g c = rw c.deref_mut.ensures.value (sending_held _ (flat_map chains_in c.self.inside.queues.items) _ (rw (← c.self.view_is) at c.requires.held))

pub returns-clause-sending : goal.returns-clause-sending
returns-clause-sending g c =
    let items = with_items_is c.self.inside.sending c.hold_at.new.sending (c.hold_at.auto.sending ∙ c.deref_mut.ensures.len) in
    rw (← c.self.view_is, items) (rw c.deref_mut.ensures.value at c.hold_at.ensures.sending)

pub returns-clause-queues : goal.returns-clause-queues
returns-clause-queues g c =
    let moves = rw c.deref_mut.ensures.value at c.hold_at.ensures.moves in
    let held = rw (← c.self.view_is) at c.requires.held in
    rw (← c.self.view_is) (queues_same _ _ _ _ c.self.inside.queues.items _ _ held moves)

pub returns-clause-moves : goal.returns-clause-moves
returns-clause-moves g c =
    let items = with_items_is c.self.inside.sending c.hold_at.new.sending (c.hold_at.auto.sending ∙ c.deref_mut.ensures.len) in
    rw (items, ← c.self.view_is) (sending_move _ _ _ _ (flat_map chains_in c.self.inside.queues.items) _ _ (rw c.deref_mut.ensures.value at c.hold_at.ensures.moves))
