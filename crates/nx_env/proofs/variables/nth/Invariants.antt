use Rattle.std.proofs.Common.{◌≡◌, drop}
use Rattle.std.specs.List.{find}
use Rattle.nx_ksys.specs.EnvironmentCalls.{is_nth_variable}
use Rattle.nx_env.proofs.variables.nth.Given as goal

abbrev pub invariant-loop-variable : goal.invariant-loop-variable
invariant-loop-variable l = find (is_nth_variable l.variables l.index) (drop l.variable-index l.variables) ≡ find (is_nth_variable l.variables l.index) l.variables
