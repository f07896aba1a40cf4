use Rattle.std.proofs.Common.{◌≡◌, [], replicate}
use Rattle.nx_env.proofs.environments.no_environments.Given as goal

abbrev pub invariant-loop : goal.invariant-loop
invariant-loop l = l.items.items ≡ replicate l.counter []
