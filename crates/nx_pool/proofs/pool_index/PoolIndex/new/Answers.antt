use Rattle.std.proofs.Common.{rules}
use Rattle.nx_pool.proofs.StoreLemmas.{first_apart}
use Rattle.nx_pool.proofs.pool_index.PoolIndex.new.Goals as goal

pub returns-clause-free : goal.returns-clause-free
returns-clause-free c = first_apart _ _ c.args.blocks (search rules) (search rules) c.push_all.ensures.count
