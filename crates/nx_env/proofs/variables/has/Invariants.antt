use Rattle.std.proofs.Common.{◌≡◌, drop}
use Rattle.std.specs.List.{list_any}
use Rattle.nx_ksys.specs.EnvironmentCalls.{is_variable}
use Rattle.nx_env.proofs.variables.has.Given as goal

abbrev pub invariant-loop-variable : goal.invariant-loop-variable
invariant-loop-variable l = list_any (is_variable l.name) (drop l.variable-index l.variables) ≡ list_any (is_variable l.name) l.variables
