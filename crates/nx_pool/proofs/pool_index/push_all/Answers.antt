use Rattle.std.proofs.Common.{◌+◌, arith, ap, ◌∙◌, sym, rules, [], ◌∷◌}
use Rattle.nx_pool.specs.Chains.{occurs}
use Rattle.nx_pool.proofs.LinkLemmas.{occurs-append, occurs-one, occurs-none, one_if-none, one_if-more}
use Rattle.nx_pool.proofs.pool_index.push_all.Goals as goal

pub loop-block-init : goal.loop-block-init
loop-block-init c = record { count = λ q. occurs-none q c.args.free.now.items (search rules) ∙ sym (one_if-none q); long = search rules; capacity = omega arith }

pub loop-block-preserved : goal.loop-block-preserved
loop-block-preserved c =
    let items = rw c.unwrap.ensures at c.push.ensures.items in
    let len = rw c.unwrap.ensures at c.push.ensures.len in
    record {
      count = λ q. ap (occurs q) items ∙ occurs-append q c.loop-block.free.items (c.loop-block.block ∷ []) ∙ omega (arith, c.loop-block.invariant.count q, occurs-one q c.loop-block.block, one_if-more q c.loop-block.block);
      long = len ∙ ap (λ n. n + 1) c.loop-block.invariant.long;
      capacity = omega arith;
    }
