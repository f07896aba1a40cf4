use Rattle.std.proofs.Common.{ap, arith, length, ◌<◌}
use Rattle.std.specs.Prelude.{Some, None}
use Rattle.std.proofs.lemmas.List.{set-get_or}
use Rattle.nx_ksys.specs.Threads.{flat}
use Rattle.nx_fs.proofs.PlaceLemmas.{get_some, get_none, get_files, chain_held, step_become, write_none, write_some}
use Rattle.nx_fs.proofs.chains.write_at.Goals as goal

pub write_chain-requires-clause-held : goal.write_chain-requires-clause-held
write_chain-requires-clause-held g c = chain_held _ c.args.chains.now c.args.place c.in-Some.chain c.requires.held (get_some c.args.chains.now c.args.place c.in-Some.chain c.in-Some.is)

pub returns-in-None-clause-row : goal.returns-in-None-clause-row
returns-in-None-clause-row g c = λ k d at f.
    let within : c.args.place < length c.args.chains.now = omega arith in
    rw (set-get_or c.args.chains.now c.args.place None) (write_none _ d at c.args.place c.args.description c.args.bytes.now _ (ap flat (get_files (g.B.BlockStore.content c.args.blocks.now) c.args.chains.now c.args.place None (get_none c.args.chains.now c.args.place within c.in-None.is))))

pub returns-in-Some-clause-row : goal.returns-in-Some-clause-row
returns-in-Some-clause-row g c = λ k d at f.
    let content = g.B.BlockStore.content c.args.blocks.now in
    let there = get_some c.args.chains.now c.args.place c.in-Some.chain c.in-Some.is in
    let s = step_become _ _ _ _ c.args.chains.now c.args.place c.in-Some.chain c.write_chain.new.chain _ c.requires.held there c.write_chain.ensures.becomes in
    write_some k d at c.args.place _ c.write_start-at.result c.args.description c.args.bytes.now _ _ _ _ c.write_chain.result (get_files content c.args.chains.now c.args.place (Some c.in-Some.chain) there) f
    (c.write_start-at.ensures content (λ x. g.met.B.BlockStore.sized c.args.blocks.now x)) c.write_chain.ensures.told s.state c.write_chain.ensures.same

pub returns-in-Some-clause-moves : goal.returns-in-Some-clause-moves
returns-in-Some-clause-moves g c =
    let there = get_some c.args.chains.now c.args.place c.in-Some.chain c.in-Some.is in
    let s = step_become _ _ _ _ c.args.chains.now c.args.place c.in-Some.chain c.write_chain.new.chain _ c.requires.held there c.write_chain.ensures.becomes in
    s.moves
