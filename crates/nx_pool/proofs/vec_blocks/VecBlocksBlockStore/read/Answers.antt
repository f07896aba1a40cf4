use Rattle.nx_pool.proofs.LinkLemmas.{held_is_apart, is_chain}
use Rattle.nx_pool.proofs.vec_blocks.VecBlocksBlockStore.read.Goals as goal

pub read_at-requires-clause-chain : goal.read_at-requires-clause-chain
read_at-requires-clause-chain c =
    let i = c.args.self.now.index in
    is_chain i.next.items i.free.items c.args.chain.now (held_is_apart i.next.items i.free.items c.args.chain.now c.requires.held)
