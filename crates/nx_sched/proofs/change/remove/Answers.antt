use Rattle.std.proofs.Common.{arith, ◌<◌, length, None}
use Rattle.std.proofs.lemmas.List.Edits.{map_over_more}
use Rattle.std.proofs.lemmas.List.{get_or_default}
use Rattle.nx_sched.specs.Changes.{left_by}
use Rattle.nx_sched.proofs.change.remove.Goals as goal

pub loop-i-preserved : goal.loop-i-preserved
loop-i-preserved c =
    let t = c.loop-i-test.true in
    let within : c.loop-i.i < length c.loop-i.slots = omega (arith, c.loop-i.auto.slots) in
    rw c.left.ensures (map_over_more (left_by c.args.removal) c.args.slots.now c.loop-i.slots c.loop-i.i _ (omega arith) c.loop-i.invariant (get_or_default c.loop-i.slots c.loop-i.i None _ within))
