use Rattle.std.proofs.Common.{arith, ◌∙◌, sym, length}
use Rattle.std.proofs.lemmas.List.{ext_get_or}
use Rattle.nx_base.specs.ByteLists.{get_bytes}
use Rattle.nx_pool.specs.Chains.{content_of}
use Rattle.nx_pool.proofs.PayloadLemmas.{read_step, length-get_bytes, get-get_bytes}
use Rattle.nx_pool.proofs.payload.read_at.Goals as goal

pub loop-byte-preserved : goal.loop-byte-preserved
loop-byte-preserved c =
    let inside = c.requires.inside in
    let place = c.loop-byte.invariant.place in
    record {
      read = λ k l. read_step _ _ _ _ _ _ _ _ (omega arith) place (omega arith) c.loop-byte.invariant.block c.loop-byte.invariant.read k l;
      block = c.block_after-block.ensures c.args.chain.now.first c.loop-byte.invariant.block;
      place = omega arith;
    }

pub returns : goal.returns
returns c =
    let content = content_of c.args.bytes.now c.args.index.now.next.items c.args.chain.now in
    let n = length-get_bytes content c.args.at (length c.args.into.now) in
    ext_get_or 0 c.loop-byte.into (get_bytes content c.args.at (length c.args.into.now)) (omega arith) (λ k l.
    c.loop-byte.invariant.read k (omega arith) ∙ sym (get-get_bytes content c.args.at (length c.args.into.now) k (omega arith)))
