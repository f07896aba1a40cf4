use Rattle.std.proofs.Common.{◌<◌, arith, rules}
use Rattle.nx_pool.proofs.PayloadLemmas.{write_step, write_rest, write_end}
use Rattle.nx_pool.proofs.EffectLemmas.{Becomes-eq}
use Rattle.nx_pool.proofs.payload.write_at.Goals as goal

pub loop-byte-preserved : goal.loop-byte-preserved
loop-byte-preserved c =
    let inside = c.requires.inside in
    let place = c.loop-byte.invariant.place in
    let within : c.loop-byte.place < c.args.chain.now.bytes = omega arith in
    let block = c.loop-byte.invariant.block in
    record {
      becomes = λ free. write_step _ free _ _ _ _ _ _ c.loop-byte.invariant.whole c.requires.chain within block (c.loop-byte.invariant.becomes free);
      rest = write_rest _ c.args.bytes.now _ c.args.from.now c.args.chain.now c.args.at _ _ _ c.loop-byte.invariant.whole c.requires.chain within place (omega arith) block c.loop-byte.invariant.rest;
      block = c.block_after-block.ensures c.args.chain.now.first block;
      place = omega arith;
      whole = search rules;
    }

pub returns : goal.returns
returns c = λ free. Becomes-eq _ _ _ _ _ _ _ _ (write_end _ _ _ _ _ (omega arith) c.loop-byte.invariant.rest) (c.loop-byte.invariant.becomes free)
