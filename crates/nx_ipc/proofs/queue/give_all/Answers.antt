use Rattle.nx_pool.proofs.Holders.{Moves-trans, are_still_held}
use Rattle.nx_ipc.proofs.Joins.{last_held, last_goes}
use Rattle.nx_ipc.proofs.queue.give_all.Goals as goal

pub give-requires : goal.give-requires
give-requires g c = last_held _ c.loop-message.left.items c.pop.new.self.items c.in-Some.message c.loop-message.invariant.held c.in-Some.ensures.items

pub loop-message-preserved : goal.loop-message-preserved
loop-message-preserved g c =
    let inv = c.loop-message.invariant in
    let moves = last_goes _ _ _ _ c.loop-message.left.items c.pop.new.self.items c.in-Some.message c.in-Some.ensures.items c.give.ensures.gone in
    record {
      held = are_still_held _ _ _ _ _ _ inv.held moves;
      moves = Moves-trans _ _ _ _ _ _ _ _ _ inv.moves moves;
      alike = g.met.B.BlockStore.alike_transitive _ _ _ inv.alike c.give.ensures.alike;
    }
