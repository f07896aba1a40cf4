use Rattle.std.proofs.Common.{◌<◌, length, arith, refl, ap, ◌∙◌, sym, add-one, subst}
use Rattle.std.specs.Prelude.{slice_index}
use Rattle.std.proofs.lemmas.List.{get_or_read}
use Rattle.nx_pool.specs.Chains.{block_at}
use Rattle.nx_pool.proofs.LinkLemmas.{block_at-more}
use Rattle.nx_pool.proofs.pool_index.PoolIndex.block_of.Goals as goal

pub loop-init : goal.loop-init
unfolding block_at
loop-init c = refl

pub loop-preserved : goal.loop-preserved
loop-preserved c =
    let next = c.args.self.now.next.items in
    let first = c.args.chain.now.first in
    let at = c.loop.counter in
    let here : block_at next first at < length next = c.requires.chain.inside at (omega arith) in
    let inside : c.loop.block < length next = subst (λ q. q < length next) (sym c.loop.invariant) here in
    get_or_read next _ _ inside c.index-block.ensures 0 ∙ ap (slice_index next) c.loop.invariant ∙ rw add-one (rw block_at-more refl)
