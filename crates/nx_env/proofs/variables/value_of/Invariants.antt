use Rattle.std.proofs.Common.{◌≡◌, drop}
use Rattle.std.specs.Prelude.{option_map}
use Rattle.std.specs.List.{find}
use Rattle.nx_ksys.specs.EnvironmentCalls.{is_variable}
use Rattle.nx_env.proofs.variables.value_of.Given as goal

abbrev pub invariant-loop-variable : goal.invariant-loop-variable
invariant-loop-variable l = option_map (λ v. v.1) (find (is_variable l.name) (drop l.variable-index l.variables)) ≡ option_map (λ v. v.1) (find (is_variable l.name) l.variables)
