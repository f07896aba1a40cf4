use Rattle.std.proofs.Common.{sym, ◌∙◌, arith}
use Rattle.std.specs.Prelude.{Some, None}
use Rattle.std.proofs.lemmas.List.{length-map}
use Rattle.nx_ipc.specs.Tables.{sent_of, sending_of}
use Rattle.nx_ipc.proofs.Messages.{place_of, some_at, set_past, none_held, sent_held, sent_comes, sent_instead, still_one}
use Rattle.nx_ipc.proofs.sending.hold.Goals as goal

pub returns-then-slot-sending-clause-sending : goal.returns-then-slot-sending-clause-sending
returns-then-slot-sending-clause-sending g c =
    let content = g.B.BlockStore.content c.args.blocks.now in
    sym (set_past (sending_of content c.args.sending.now) c.args.slot _ (omega (arith, length-map c.args.sending.now (sent_of content))))

pub store-message-requires-clause-held : goal.store-message-requires-clause-held
store-message-requires-clause-held g c = none_held _ _ c.requires.held

pub give-requires : goal.give-requires
give-requires g c =
    let at = some_at c.args.sending.now c.args.slot c.in-Some.old (sym c.replace.ensures.value ∙ c.in-Some.is) in
    still_one _ _ _ _ c.in-Some.old.chain _ _ (sent_held _ c.args.sending.now c.args.slot c.in-Some.old c.requires.held at) c.store-message.ensures.comes

pub returns-in-None-clause-sending : goal.returns-in-None-clause-sending
returns-in-None-clause-sending g c =
    let at = place_of c.args.sending.now c.args.slot None None (omega arith) (sym c.replace.ensures.value ∙ c.in-None.is) in
    rw c.replace.ensures.after (sent_comes _ _ _ _ c.args.sending.now c.args.slot c.store-message.result c.args.priority c.args.bytes.now c.requires.held at c.store-message.ensures.priority c.store-message.ensures.comes).state

pub returns-in-None-clause-moves : goal.returns-in-None-clause-moves
returns-in-None-clause-moves g c =
    let at = place_of c.args.sending.now c.args.slot None None (omega arith) (sym c.replace.ensures.value ∙ c.in-None.is) in
    rw c.replace.ensures.after (sent_comes _ _ _ _ c.args.sending.now c.args.slot c.store-message.result c.args.priority c.args.bytes.now c.requires.held at c.store-message.ensures.priority c.store-message.ensures.comes).moves

pub returns-in-Some-clause-sending : goal.returns-in-Some-clause-sending
returns-in-Some-clause-sending g c =
    let at = some_at c.args.sending.now c.args.slot c.in-Some.old (sym c.replace.ensures.value ∙ c.in-Some.is) in
    rw c.replace.ensures.after (sent_instead _ _ _ _ _ _ c.args.sending.now c.args.slot c.store-message.result c.in-Some.old c.args.priority c.args.bytes.now c.requires.held at c.store-message.ensures.priority c.store-message.ensures.comes c.give.ensures.gone).state

pub returns-in-Some-clause-moves : goal.returns-in-Some-clause-moves
returns-in-Some-clause-moves g c =
    let at = some_at c.args.sending.now c.args.slot c.in-Some.old (sym c.replace.ensures.value ∙ c.in-Some.is) in
    rw c.replace.ensures.after (sent_instead _ _ _ _ _ _ c.args.sending.now c.args.slot c.store-message.result c.in-Some.old c.args.priority c.args.bytes.now c.requires.held at c.store-message.ensures.priority c.store-message.ensures.comes c.give.ensures.gone).moves
