use Rattle.std.proofs.Common.{arith, ◌<◌, length}
use Rattle.std.proofs.lemmas.List.Edits.{map_over_more}
use Rattle.std.proofs.lemmas.List.{get_or_default}
use Rattle.nx_ksys.specs.EnvironmentCalls.{with_value}
use Rattle.nx_env.proofs.variables.set_all.Goals as goal

pub loop-at-preserved : goal.loop-at-preserved
loop-at-preserved c =
    let t = c.loop-at-test.true in
    let within : c.loop-at.at < length c.loop-at.variables = omega (arith, c.loop-at.auto.variables) in
    rw c.set_one.ensures (map_over_more (with_value c.args.name.now c.args.value.now) c.args.variables.now c.loop-at.variables c.loop-at.at _ (omega arith) c.loop-at.invariant (get_or_default c.loop-at.variables c.loop-at.at c.index-variables-at.result _ within))
