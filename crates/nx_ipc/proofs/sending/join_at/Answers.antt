use Rattle.std.proofs.Common.{sym}
use Rattle.std.specs.Prelude.{Some}
use Rattle.nx_ipc.specs.Tables.{queues_of}
use Rattle.nx_ipc.proofs.Messages.{set_same}
use Rattle.nx_ipc.proofs.sending.join_at.Goals as goal

pub returns-in-None-clause-queues : goal.returns-in-None-clause-queues
returns-in-None-clause-queues g c = rw c.in-None.is (λ q e. sym (set_same (queues_of (g.B.BlockStore.content c.args.blocks.now) c.args.queues.now) c.args.place (Some q) e))
