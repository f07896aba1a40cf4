use Rattle.std.proofs.Common.{◌∙◌, sym}
use Rattle.std.proofs.lemmas.List.{with_items_is}
use Rattle.nx_pool.proofs.StoreLemmas.{no_bytes_apart, comes, longer_at}
use Rattle.nx_pool.proofs.vec_blocks.VecBlocksBlockStore.take_chain.Goals as goal

pub lengthen-requires-clause-apart : goal.lengthen-requires-clause-apart
lengthen-requires-clause-apart c = let i = c.args.self.now.index in no_bytes_apart i.next.items i.free.items i.once

pub returns-clause-ok : goal.returns-clause-ok
returns-clause-ok c =
    let s = c.args.self.now in
    comes s.index.next.items s.index.free.items s.bytes.items _ _ _ _ c.args.bytes
    (longer_at _ _ _ _ _ _ _ _ _ _ _ (sym c.deref_mut.ensures.value) (with_items_is s.bytes c.lengthen.new.bytes (c.lengthen.auto.bytes ∙ c.deref_mut.ensures.len)) c.lengthen.ensures.becomes)
