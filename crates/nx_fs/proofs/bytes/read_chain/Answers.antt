use Rattle.std.proofs.Common.{arith}
use Rattle.nx_fs.proofs.ByteLemmas.{read_front}
use Rattle.nx_fs.proofs.bytes.read_chain.Goals as goal

pub returns-clause-bytes : goal.returns-clause-bytes
returns-clause-bytes g c =
    let content = g.B.BlockStore.content c.args.blocks.now c.args.chain.now in
    let long = g.met.B.BlockStore.sized c.args.blocks.now c.args.chain.now in
    read_front c.read.new.into c.args.into.now content c.args.at c.min-count.result c.read.ensures (omega (arith, long, c.bytes.ensures, c.saturating_sub-left.ensures, c.min-count.ensures)) (omega arith)
