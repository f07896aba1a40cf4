use Rattle.std.proofs.Common.{ap, ◌∙◌}
use Rattle.std.specs.Prelude.{Some, slice_get, slice_set}
use Rattle.nx_pool.proofs.Holders.{Moves-trans}
use Rattle.nx_ipc.specs.Tables.{queues_of, sending_of, without_next, left_with, sending_with}
use Rattle.nx_ipc.proofs.Messages.{get_set, set_again}
use Rattle.nx_ipc.proofs.queues.Queues.take_and_join.Goals as goal

pub returns-in-Some-clause-some : goal.returns-in-Some-clause-some
returns-in-Some-clause-some g c = λ q e.
    let place = c.args.place in
    let old = queues_of (g.B.BlockStore.content c.args.blocks.now) c.args.self.now.queues in
    let n = c.in-Some.ensures.some q e in
    let rest = without_next q n.message in
    let at = ap (λ qs. slice_get qs place) n.queues ∙ get_set old place (Some rest) (Some q) e in
    record {
      message = n.message;
      next = n.next;
      taken = n.taken;
      queues = c.join_if.ensures.queues rest at
          ∙ ap (λ qs. slice_set qs place (Some (left_with rest (sending_of (g.B.BlockStore.content c.take.new.blocks) c.take.new.self.sending) c.args.sender c.args.slot))) n.queues
          ∙ set_again old place (Some rest) _
          ∙ ap (λ ss. slice_set old place (Some (left_with rest ss c.args.sender c.args.slot))) c.take.ensures.sending;
      sending_after = c.join_if.ensures.sending ∙ ap (λ ss. sending_with ss c.args.sender c.args.slot) c.take.ensures.sending;
    }

pub returns-in-Some-clause-moves : goal.returns-in-Some-clause-moves
returns-in-Some-clause-moves g c = Moves-trans _ _ _ _ _ _ _ _ _ c.take.ensures.moves c.join_if.ensures.moves
