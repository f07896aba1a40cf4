use Rattle.std.proofs.Common.{◌∙◌, sym}
use Rattle.std.specs.Prelude.{None}
use Rattle.nx_fs.proofs.PlaceLemmas.{get_some, chain_held, step_go, set_files, get_set}
use Rattle.nx_fs.proofs.chains.give_at.Goals as goal

pub give-requires : goal.give-requires
give-requires g c = chain_held _ c.args.chains.now c.args.place c.in-Some.chain c.requires.held (get_some c.args.chains.now c.args.place c.in-Some.chain (sym c.replace.ensures.value ∙ c.in-Some.is))

pub returns-in-None-clause-files : goal.returns-in-None-clause-files
returns-in-None-clause-files g c = rw c.replace.ensures.after (set_files _ c.args.chains.now c.args.place None)

pub returns-in-None-clause-free : goal.returns-in-None-clause-free
returns-in-None-clause-free g c = rw c.replace.ensures.after (λ l. get_set c.args.chains.now c.args.place None l)

pub returns-in-Some-clause-files : goal.returns-in-Some-clause-files
returns-in-Some-clause-files g c =
    let s = step_go _ _ _ _ c.args.chains.now c.args.place c.in-Some.chain c.requires.held (get_some c.args.chains.now c.args.place c.in-Some.chain (sym c.replace.ensures.value ∙ c.in-Some.is)) c.give.ensures.gone in
    rw c.replace.ensures.after s.state

pub returns-in-Some-clause-moves : goal.returns-in-Some-clause-moves
returns-in-Some-clause-moves g c =
    let s = step_go _ _ _ _ c.args.chains.now c.args.place c.in-Some.chain c.requires.held (get_some c.args.chains.now c.args.place c.in-Some.chain (sym c.replace.ensures.value ∙ c.in-Some.is)) c.give.ensures.gone in
    rw c.replace.ensures.after s.moves

pub returns-in-Some-clause-free : goal.returns-in-Some-clause-free
returns-in-Some-clause-free g c = rw c.replace.ensures.after (λ l. get_set c.args.chains.now c.args.place None l)
