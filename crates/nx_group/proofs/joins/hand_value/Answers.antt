use Rattle.std.proofs.Common.{ap, sym, arith}
use Rattle.nx_group.proofs.Ending.{joined, value_kept, value_taken}
use Rattle.nx_group.proofs.joins.hand_value.Goals as goal

pub wake-requires : goal.wake-requires
wake-requires c =
    let one = joined c.args.threads.now c.args.thread c.in-Some.joiner (sym c.in-Some.ensures) in
    omega (arith, one, c.requires.moments)

pub tell_value-requires : goal.tell_value-requires
tell_value-requires c =
    let one = joined c.args.threads.now c.args.thread c.in-Some.joiner (sym c.in-Some.ensures) in
    omega (arith, one, c.requires.room)

pub returns-in-None-clause-told : goal.returns-in-None-clause-told
returns-in-None-clause-told c = λ k.
    let added = ap (λ q. q.values) c.add.ensures in
    value_kept k _ _ _ _ _ _ (sym c.in-None.ensures) (rw c.new.ensures at added)

pub returns-in-Some-clause-told : goal.returns-in-Some-clause-told
returns-in-Some-clause-told c = λ k. value_taken k _ _ _ _ _ c.in-Some.joiner _ _ (sym c.in-Some.ensures) c.wake.ensures c.tell_value.ensures.told
