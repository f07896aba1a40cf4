use Rattle.std.proofs.Common.{◌+◌, ◌-◌, length, arith}
use Rattle.nx_pool.proofs.EffectLemmas.{still_held}
use Rattle.nx_pool.proofs.Appends.{appended}
use Rattle.nx_pool.proofs.tests.append.Goals as goal

pub write-requires-clause-held : goal.write-requires-clause-held
write-requires-clause-held g c = still_held _ _ _ _ _ _ _ c.requires.held c.in_ok-grow.ensures.ok

pub returns-clause-ok : goal.returns-clause-ok
returns-clause-ok g c =
    let chain = c.args.chain.now in
    let at = c.bytes-at.result in
    let long = g.met.B.BlockStore.sized c.args.store.now chain in
    appended _ _ _ _ _ _ chain c.grow.new.chain at (at + length c.args.bytes.now - chain.bytes) c.args.bytes.now (omega (arith, long, c.bytes-at.ensures)) (omega (arith, c.bytes-at.ensures)) c.in_ok-grow.ensures.ok c.write.ensures.wrote
