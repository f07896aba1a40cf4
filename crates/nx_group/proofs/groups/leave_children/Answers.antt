use Rattle.std.proofs.Common.{arith, ◌<◌, length, None}
use Rattle.std.proofs.lemmas.List.Edits.{map_over_more}
use Rattle.std.proofs.lemmas.List.{get_or_default}
use Rattle.nx_ksys.specs.Ends.{nobodys}
use Rattle.nx_group.proofs.groups.leave_children.Goals as goal

pub loop-place-preserved : goal.loop-place-preserved
loop-place-preserved c =
    let t = c.loop-place-test.true in
    let within : c.loop-place.place < length c.loop-place.groups = omega (arith, c.loop-place.auto.groups) in
    rw c.lose_parent.ensures (map_over_more (nobodys c.args.parent) c.args.groups.now c.loop-place.groups c.loop-place.place _ (omega arith) c.loop-place.invariant (get_or_default c.loop-place.groups c.loop-place.place c.index-groups-place.result _ within))
