use Rattle.std.proofs.Common.{length, map, sym, ap, ◌∙◌, arith}
use Rattle.std.proofs.lemmas.List.{length-map}
use Rattle.nx_ksys.specs.Threads.{Schedule}
use Rattle.nx_ksys.specs.Gathered.{replies_of}
use Rattle.nx_ksys.specs.Ends.{without_thread}
use Rattle.nx_group.specs.Living.{with_values}
use Rattle.nx_ktables.specs.State.{state_of}
use Rattle.nx_kgroups.proofs.Vanishing.{waiting_few}
use Rattle.nx_kgroups.proofs.Members.{value_handed}
use Rattle.nx_kgroups.proofs.exiting.end_thread.Goals as goal

pub hand_value-requires-clause-moments : goal.hand_value-requires-clause-moments
hand_value-requires-clause-moments c =
    let e = c.end_thread.ensures in
    let w = waiting_few c.end_thread.new.self.threads in
    let l = ap (λ (s : Schedule). length s.threads) e ∙ length-map c.args.tables.now.threads.threads (without_thread c.args.caller.thread.number) in
    let m = ap (λ (s : Schedule). s.moments) e in
    omega (arith, w, l, m, c.requires.moments)

pub hand_value-requires-clause-room : goal.hand_value-requires-clause-room
hand_value-requires-clause-room c =
    let e = c.end_thread.ensures in
    let w = waiting_few c.end_thread.new.self.threads in
    let l = ap (λ (s : Schedule). length s.threads) e ∙ length-map c.args.tables.now.threads.threads (without_thread c.args.caller.thread.number) in
    omega (arith, w, l, c.requires.room)

pub returns-clause-told : goal.returns-clause-told
returns-clause-told c = λ content place h e.
    let old = c.args.tables.now in
    let k = state_of content old in
    let n = c.args.caller.thread.number in
    let before = replies_of c.args.replies.now.replies in
    let after = replies_of c.hand_value.new.replies.replies in
    let now = with_values k c.hand_value.new.threads c.hand_value.new.values.values in
    let gone : Schedule = record old.threads { threads = map (without_thread n) old.threads.threads } in
    value_handed before after now k old.values.values c.args.group h.number n c.args.value c.end_thread.new.self gone (sym e) c.end_thread.ensures (c.hand_value.ensures.told k)
