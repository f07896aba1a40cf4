use Rattle.std.proofs.Common.{◌∙◌, sym}
use Rattle.std.proofs.lemmas.List.{with_items_is}
use Rattle.nx_pool.proofs.LinkLemmas.{held_is_apart}
use Rattle.nx_pool.proofs.StoreLemmas.{longer_at}
use Rattle.nx_pool.proofs.vec_blocks.VecBlocksBlockStore.grow.Goals as goal

pub lengthen-requires-clause-apart : goal.lengthen-requires-clause-apart
lengthen-requires-clause-apart c = let i = c.args.self.now.index in held_is_apart i.next.items i.free.items c.args.chain.now c.requires.held

pub returns-clause-ok : goal.returns-clause-ok
returns-clause-ok c =
    let s = c.args.self.now in
    longer_at _ _ _ _ _ _ _ _ _ _ _ (sym c.deref_mut.ensures.value) (with_items_is s.bytes c.lengthen.new.bytes (c.lengthen.auto.bytes ∙ c.deref_mut.ensures.len)) c.lengthen.ensures.becomes
