use Rattle.std.proofs.Common.{◌≡◌, ◌++◌, drop, take, map}
use Rattle.nx_ksys.specs.EnvironmentCalls.{with_value}
use Rattle.nx_env.proofs.variables.set_all.Given as goal

abbrev pub invariant-loop-at : goal.invariant-loop-at
invariant-loop-at l = l.variables ≡ map (with_value l.name l.value) (take l.at l.fn.variables) ++ drop l.at l.fn.variables
