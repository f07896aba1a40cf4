use Rattle.std.proofs.Common.{◌≡◌, ◌≤◌, ℕ, vec_len, vec_capacity}
use Rattle.std.specs.Prelude.{nat_lt}
use Rattle.nx_pool.specs.Chains.{occurs, one_if}
use Rattle.nx_pool.proofs.pool_index.push_all.Given as goal

abbrev pub invariant-loop-block : goal.invariant-loop-block
invariant-loop-block l = record {
  count : (q : ℕ) → occurs q l.free.items ≡ one_if (nat_lt q l.block);
  long : vec_len l.free ≡ l.block;
  capacity : vec_capacity l.fn.free ≤ vec_capacity l.free;
}
