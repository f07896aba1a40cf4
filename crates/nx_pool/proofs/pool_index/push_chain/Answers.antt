use Rattle.std.proofs.Common.{◌+◌, arith, refl, ap, ◌∙◌, add-one}
use Rattle.nx_pool.specs.Chains.{occurs, block_at, blocks_from}
use Rattle.nx_pool.proofs.LinkLemmas.{block_at-more, occurs-released}
use Rattle.nx_pool.proofs.pool_index.push_chain.Goals as goal

pub loop-init : goal.loop-init
unfolding occurs block_at blocks_from
loop-init c = record { count = λ q. omega arith; long = omega arith; capacity = omega arith; at = refl }

pub loop-preserved : goal.loop-preserved
loop-preserved c = record {
  count = λ q. occurs-released q _ _ _ _ _ _ _ (rw c.unwrap.ensures at c.push.ensures.items) c.loop.invariant.at (c.loop.invariant.count q);
  long = rw c.unwrap.ensures at c.push.ensures.len ∙ ap (λ n. n + 1) c.loop.invariant.long ∙ omega arith;
  capacity = omega arith;
  at = rw add-one (rw block_at-more (rw (← c.loop.invariant.at) refl));
}
