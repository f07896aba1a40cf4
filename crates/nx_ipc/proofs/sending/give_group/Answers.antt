use Rattle.std.proofs.Common.{◌<◌, ◌≤◌, ap, sym, ◌∙◌, arith, length, min, refl}
use Rattle.std.specs.Prelude.{None}
use Rattle.std.proofs.lemmas.List.{length-map}
use Rattle.nx_pool.proofs.Holders.{Moves-trans, are_still_held}
use Rattle.nx_ipc.specs.Tables.{sent_of, sending_of, without_sent}
use Rattle.nx_ipc.proofs.Messages.{place_of}
use Rattle.nx_ipc.proofs.Joins.{kept_more, kept_all}
use Rattle.nx_ipc.proofs.sending.give_group.Goals as goal

pub loop-slot-preserved : goal.loop-slot-preserved
loop-slot-preserved g c =
    let inv = c.loop-slot.invariant in
    let content = g.B.BlockStore.content c.args.blocks.now in
    let slot = c.loop-slot.slot in
    let first : slot < length c.args.threads.now = omega (arith, c.loop-slot-test.true) in
    let second : slot < length (sending_of content c.args.sending.now) = omega (arith, c.loop-slot-test.true, length-map c.args.sending.now (sent_of content)) in
    record {
      sending = c.give_if.ensures.sending ∙ ap (without_sent c.args.group _ slot) inv.sending
          ∙ sym (kept_more c.args.group c.args.threads.now slot _ (sending_of content c.args.sending.now) (place_of c.args.threads.now slot _ None first refl) second);
      held = are_still_held _ _ _ _ _ _ inv.held c.give_if.ensures.moves;
      moves = Moves-trans _ _ _ _ _ _ _ _ _ inv.moves c.give_if.ensures.moves;
      alike = g.met.B.BlockStore.alike_transitive _ _ _ inv.alike c.give_if.ensures.alike;
      long = c.give_if.ensures.len ∙ inv.long;
    }

pub returns-clause-sending : goal.returns-clause-sending
returns-clause-sending g c =
    let content = g.B.BlockStore.content c.args.blocks.now in
    c.loop-slot.invariant.sending ∙ kept_all c.args.group c.args.threads.now (sending_of content c.args.sending.now) c.loop-slot.slot (omega (arith, c.loop-slot-test.false, length-map c.args.sending.now (sent_of content)))
