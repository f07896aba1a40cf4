use Rattle.std.proofs.Common.{ap, sym, arith}
use Rattle.nx_group.proofs.Ending.{served, woken_moments, handed_none, handed_some}
use Rattle.nx_group.proofs.ends.hand_over.Goals as goal

pub wake-requires : goal.wake-requires
wake-requires c =
    let one = served c.args.threads.now c.args.parent c.args.child c.in-Some.thread (sym c.in-Some.ensures) in
    omega (arith, one, c.requires.moments)

pub tell_code-requires-clause-room : goal.tell_code-requires-clause-room
tell_code-requires-clause-room c =
    let one = served c.args.threads.now c.args.parent c.args.child c.in-Some.thread (sym c.in-Some.ensures) in
    omega (arith, one, c.requires.room)

pub returns-in-None-clause-told : goal.returns-in-None-clause-told
returns-in-None-clause-told c = λ k groups.
    let added = ap (λ q. q.codes) c.add.ensures in
    handed_none k _ groups _ _ _ _ _ (sym c.in-None.ensures) (rw c.new.ensures at added)

pub returns-in-Some-clause-told : goal.returns-in-Some-clause-told
returns-in-Some-clause-told c = λ k groups. handed_some k _ _ groups _ _ _ c.in-Some.thread _ _ (sym c.in-Some.ensures) c.wake.ensures c.tell_code.ensures.told

pub returns-in-Some-clause-room : goal.returns-in-Some-clause-room
returns-in-Some-clause-room c =
    let one = served c.args.threads.now c.args.parent c.args.child c.in-Some.thread (sym c.in-Some.ensures) in
    rw c.wake.ensures (omega (arith, one, c.tell_code.ensures.len))

pub returns-in-Some-clause-moments : goal.returns-in-Some-clause-moments
returns-in-Some-clause-moments c =
    let one = served c.args.threads.now c.args.parent c.args.child c.in-Some.thread (sym c.in-Some.ensures) in
    rw c.wake.ensures (omega (arith, one, woken_moments c.args.threads.now c.in-Some.thread.number))
