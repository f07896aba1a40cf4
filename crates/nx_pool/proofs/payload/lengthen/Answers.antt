use Rattle.std.proofs.Common.{arith, rules}
use Rattle.std.proofs.lemmas.List.{length-set}
use Rattle.nx_pool.proofs.LinkLemmas.{is_chain}
use Rattle.nx_pool.proofs.EffectLemmas.{lengthen_step}
use Rattle.nx_pool.proofs.payload.lengthen.Goals as goal

pub block_of-last-requires-clause-chain : goal.block_of-last-requires-clause-chain
block_of-last-requires-clause-chain c = is_chain c.args.index.now.next.items c.args.index.now.free.items c.args.chain.now c.requires.apart

pub loop-chain-preserved : goal.loop-chain-preserved
loop-chain-preserved c = record {
  becomes = lengthen_step _ _ _ _ _ _ _ _ _ _ _ _ c.loop-chain.invariant.becomes (c.extend-last.ensures.becomes c.loop-chain.bytes c.loop-chain.invariant.whole) (omega arith);
  apart = search rules;
  whole = rw length-set (search rules);
  blocks = search rules;
  longer = omega arith;
  short = omega arith;
  last = search rules;
  room = search rules;
}
