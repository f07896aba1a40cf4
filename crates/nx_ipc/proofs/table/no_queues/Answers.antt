use Rattle.std.proofs.Common.{◌∙◌, ◌++◌, ◌∷◌, [], ap}
use Rattle.std.specs.Prelude.{None}
use Rattle.nx_ipc.proofs.Messages.{one_more}
use Rattle.nx_ipc.proofs.table.no_queues.Goals as goal

pub loop-preserved : goal.loop-preserved
loop-preserved c = c.in_ok-push.ensures.items ∙ ap (λ q. q ++ None ∷ []) c.loop.invariant ∙ one_more c.loop.counter
