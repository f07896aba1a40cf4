use Rattle.std.proofs.Common.{◌≡◌}
use Rattle.nx_pool.specs.Chains.{block_at}
use Rattle.nx_pool.proofs.pool_index.PoolIndex.block_of.Given as goal

abbrev pub invariant-loop : goal.invariant-loop
invariant-loop l = l.block ≡ block_at l.self.next.items l.chain.first l.counter
