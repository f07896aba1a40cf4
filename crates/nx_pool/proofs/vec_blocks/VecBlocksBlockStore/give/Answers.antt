use Rattle.nx_pool.proofs.StoreLemmas.{given_at}
use Rattle.nx_pool.proofs.vec_blocks.VecBlocksBlockStore.give.Goals as goal

pub returns-clause-gone : goal.returns-clause-gone
returns-clause-gone c = let s = c.args.self.now in given_at s.index.next.items _ s.index.free.items _ s.bytes.items c.args.chain c.release.ensures.links c.release.ensures.gone
