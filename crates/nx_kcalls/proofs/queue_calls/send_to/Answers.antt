use Rattle.std.proofs.Common.{sym}
use Rattle.nx_kernel.specs.Doing.{caller_of}
use Rattle.nx_ktables.specs.State.{state_of, others_of}
use Rattle.nx_ktables.proofs.Answering.{does_as}
use Rattle.nx_kcalls.proofs.queue_calls.send_to.Goals as goal

pub returns-clause-does : goal.returns-clause-does
returns-clause-does g c = λ place group.
    let store = g.B.BlockStore in
    let old = c.args.tables.now in
    let now = record old { objects = c.send_message-sent.new.objects } in
    does_as _ _ _ _ _ (c.send_message-sent.ensures.row (others_of old) old.threads (caller_of c.args.caller place group) c.requires.free (sym c.first-receiver.ensures) (sym c.slot_of-slot.ensures))
    (c.tell_sent.ensures.does (state_of (store.content c.send_message-sent.new.blocks) now) place group)
