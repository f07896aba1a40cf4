use Rattle.std.proofs.Common.{◌≡◌, ◌+◌, ◌/◌, suc, arith, ap, ◌∙◌, sym}
use Rattle.std.specs.Prelude.{slice_index}
use Rattle.std.proofs.lemmas.List.{get_or_read}
use Rattle.nx_pool.specs.Chains.{block_at}
use Rattle.nx_pool.proofs.LinkLemmas.{block_at-more}
use Rattle.nx_pool.proofs.pool_index.PoolIndex.block_after.Goals as goal

pub returns-then-at : goal.returns-then-at
returns-then-at c = λ first e.
    let next = c.args.self.now.next.items in
    let k : (c.args.at + 1) / 64 ≡ suc (c.args.at / 64) = omega (arith, c.if-at.true) in
    get_or_read next _ _ c.requires c.index.ensures 0 ∙ ap (slice_index next) e ∙ sym (block_at-more next first (c.args.at / 64)) ∙ ap (block_at next first) (sym k)
