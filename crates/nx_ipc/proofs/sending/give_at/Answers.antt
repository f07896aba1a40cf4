use Rattle.std.proofs.Common.{sym, ◌∙◌}
use Rattle.std.specs.Prelude.{None}
use Rattle.std.proofs.lemmas.List.{map-set}
use Rattle.nx_ipc.specs.Tables.{sent_of}
use Rattle.nx_ipc.proofs.Messages.{some_at, sent_held, sent_goes}
use Rattle.nx_ipc.proofs.sending.give_at.Goals as goal

pub give-requires : goal.give-requires
give-requires g c = sent_held _ c.args.sending.now c.args.slot c.in-Some.message c.requires.held (some_at c.args.sending.now c.args.slot c.in-Some.message (sym c.replace.ensures.value ∙ c.in-Some.is))

pub returns-in-None-clause-sending : goal.returns-in-None-clause-sending
returns-in-None-clause-sending g c = rw c.replace.ensures.after (map-set (sent_of (g.B.BlockStore.content c.args.blocks.now)) c.args.sending.now c.args.slot None)

pub returns-in-Some-clause-sending : goal.returns-in-Some-clause-sending
returns-in-Some-clause-sending g c =
    let at = some_at c.args.sending.now c.args.slot c.in-Some.message (sym c.replace.ensures.value ∙ c.in-Some.is) in
    rw c.replace.ensures.after (sent_goes _ _ _ _ c.args.sending.now c.args.slot c.in-Some.message c.requires.held at c.give.ensures.gone).state

pub returns-in-Some-clause-moves : goal.returns-in-Some-clause-moves
returns-in-Some-clause-moves g c =
    let at = some_at c.args.sending.now c.args.slot c.in-Some.message (sym c.replace.ensures.value ∙ c.in-Some.is) in
    rw c.replace.ensures.after (sent_goes _ _ _ _ c.args.sending.now c.args.slot c.in-Some.message c.requires.held at c.give.ensures.gone).moves
