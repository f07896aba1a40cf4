use Rattle.std.proofs.Common.{◌∙◌}
use Rattle.std.specs.Prelude.{flat_map}
use Rattle.std.proofs.lemmas.List.{with_items_is}
use Rattle.nx_pool.proofs.Holders.{are_still_held}
use Rattle.nx_ipc.specs.Tables.{chains_sent}
use Rattle.nx_ipc.proofs.Messages.{queues_held, queues_move, sending_same}
use Rattle.nx_ipc.proofs.queues.Queues.sweep.Goals as goal

pub sweep_at-requires : goal.sweep_at-requires
sweep_at-requires g c = record { held = rw c.deref_mut.ensures.value (queues_held _ _ (flat_map chains_sent c.self.inside.sending.items) (rw (← c.self.view_is) at c.requires.held)) }

pub returns-clause-queues : goal.returns-clause-queues
returns-clause-queues g c =
    let items = with_items_is c.self.inside.queues c.sweep_at.new.queues (c.sweep_at.auto.queues ∙ c.deref_mut.ensures.len) in
    rw (← c.self.view_is, items) (rw c.deref_mut.ensures.value at c.sweep_at.ensures.queues)

pub returns-clause-sending : goal.returns-clause-sending
returns-clause-sending g c =
    let moves = rw c.deref_mut.ensures.value at c.sweep_at.ensures.moves in
    let held = rw (← c.self.view_is) at c.requires.held in
    rw (← c.self.view_is) (sending_same _ _ _ _ _ _ c.self.inside.sending.items held moves)

pub returns-clause-moves : goal.returns-clause-moves
returns-clause-moves g c =
    let items = with_items_is c.self.inside.queues c.sweep_at.new.queues (c.sweep_at.auto.queues ∙ c.deref_mut.ensures.len) in
    rw (items, ← c.self.view_is) (queues_move _ _ _ _ _ _ (flat_map chains_sent c.self.inside.sending.items) (rw c.deref_mut.ensures.value at c.sweep_at.ensures.moves))

pub returns-clause-held : goal.returns-clause-held
returns-clause-held g c = are_still_held _ _ _ _ _ _ c.requires.held (returns-clause-moves g c)
