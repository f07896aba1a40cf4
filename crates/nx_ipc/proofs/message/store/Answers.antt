use Rattle.nx_pool.proofs.Appends.{stored}
use Rattle.std.proofs.Common.{refl}
use Rattle.nx_ipc.proofs.message.store.Goals as goal

pub returns-clause-comes : goal.returns-clause-comes
returns-clause-comes g c = stored _ _ _ _ _ _ c.unwrap-chain.result _ c.args.bytes.now refl (rw c.unwrap-chain.ensures at c.take_chain.ensures.ok) c.write.ensures.wrote
