use Rattle.std.proofs.Common.{◌≡◌, ◌≤◌, ◌+◌, ℕ, vec_len, vec_capacity}
use Rattle.nx_pool.specs.Chains.{occurs, block_at, blocks_from}
use Rattle.nx_pool.proofs.pool_index.push_chain.Given as goal

abbrev pub invariant-loop : goal.invariant-loop
invariant-loop l = record {
  count : (q : ℕ) → occurs q l.free.items ≡ occurs q l.fn.free.items + occurs q (blocks_from l.next l.first l.counter);
  long : vec_len l.free ≡ vec_len l.fn.free + l.counter;
  capacity : vec_capacity l.fn.free ≤ vec_capacity l.free;
  at : l.block ≡ block_at l.next l.first l.counter;
}
