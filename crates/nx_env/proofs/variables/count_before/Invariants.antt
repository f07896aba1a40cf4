use Rattle.std.proofs.Common.{◌≡◌, ◌≤◌, take}
use Rattle.nx_ksys.specs.EnvironmentCalls.{names_before}
use Rattle.nx_env.proofs.variables.count_before.Given as goal

abbrev pub invariant-loop-variable : goal.invariant-loop-variable
invariant-loop-variable l = record { count : l.count ≡ names_before l.name (take l.variable-index l.variables); few : l.count ≤ l.variable-index }
