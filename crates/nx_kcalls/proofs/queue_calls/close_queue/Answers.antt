use Rattle.nx_kernel.specs.Doing.{caller_of}
use Rattle.nx_ktables.specs.State.{state_of, others_of}
use Rattle.nx_ktables.proofs.Answering.{does_as}
use Rattle.nx_kcalls.proofs.queue_calls.close_queue.Goals as goal

pub returns-clause-does : goal.returns-clause-does
returns-clause-does g c = λ group.
    let old = c.args.tables.now in
    let now = record old { objects = c.close_queue-outcome.new.objects } in
    does_as _ _ _ _ _ (c.close_queue-outcome.ensures.row (others_of old) (caller_of c.args.caller c.args.place group))
    (c.done.ensures.does (state_of (g.B.BlockStore.content c.close_queue-outcome.new.blocks) now) c.args.place group)
