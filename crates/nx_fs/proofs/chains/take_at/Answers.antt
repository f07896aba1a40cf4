use Rattle.std.proofs.Common.{arith}
use Rattle.nx_fs.proofs.PlaceLemmas.{step_come}
use Rattle.nx_fs.proofs.chains.take_at.Goals as goal

pub returns-clause-files : goal.returns-clause-files
returns-clause-files g c =
    let s = step_come _ _ _ _ c.args.chains.now c.args.place c.unwrap-chain.result _ c.requires.held (c.requires.free (omega arith)) (rw c.unwrap-chain.ensures at c.take_chain.ensures.ok) in
    s.state

pub returns-clause-moves : goal.returns-clause-moves
returns-clause-moves g c =
    let s = step_come _ _ _ _ c.args.chains.now c.args.place c.unwrap-chain.result _ c.requires.held (c.requires.free (omega arith)) (rw c.unwrap-chain.ensures at c.take_chain.ensures.ok) in
    s.moves
