use Rattle.std.proofs.Common.{◌≡◌, ◌≤◌, take, vec_capacity}
use Rattle.nx_env.proofs.variables.copy_all.Given as goal

abbrev pub invariant-loop-variable : goal.invariant-loop-variable
invariant-loop-variable l = record { items : l.to.items ≡ take l.variable-index l.from; capacity : vec_capacity l.fn.to ≤ vec_capacity l.to }
