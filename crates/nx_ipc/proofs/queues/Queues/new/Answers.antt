use Rattle.std.proofs.Common.{refl}
use Rattle.nx_ipc.proofs.queues.Queues.new.Goals as goal

pub returns-clause-chains : goal.returns-clause-chains
returns-clause-chains c = rw (c.in_ok-queues.ensures.empty, c.in_ok-sending.ensures.empty) refl
