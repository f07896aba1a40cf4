use Rattle.std.proofs.Common.{◌∙◌, sym}
use Rattle.std.proofs.lemmas.List.{with_items_is}
use Rattle.nx_base.specs.ByteLists.{put_bytes}
use Rattle.nx_pool.proofs.LinkLemmas.{held_is_apart, is_chain}
use Rattle.nx_pool.proofs.StoreLemmas.{wrote_at}
use Rattle.nx_pool.proofs.vec_blocks.VecBlocksBlockStore.write.Goals as goal

pub write_at-requires-clause-chain : goal.write_at-requires-clause-chain
write_at-requires-clause-chain c =
    let i = c.args.self.now.index in
    is_chain i.next.items i.free.items c.args.chain.now (held_is_apart i.next.items i.free.items c.args.chain.now c.requires.held)

pub returns-clause-wrote : goal.returns-clause-wrote
returns-clause-wrote c =
    let s = c.args.self.now in
    wrote_at s.index.next.items s.index.free.items _ _ _ _ c.args.chain.now (λ bs. put_bytes bs c.args.at c.args.from.now)
    (sym c.deref_mut.ensures.value) (with_items_is s.bytes c.write_at.new.bytes (c.write_at.auto.bytes ∙ c.deref_mut.ensures.len))
    (c.write_at.ensures s.index.free.items)
