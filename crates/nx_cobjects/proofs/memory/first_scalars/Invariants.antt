use Rattle.std.proofs.Common.{◌≡◌, map, take}
use Rattle.nx_cobjects.proofs.memory.first_scalars.Given as goal

abbrev pub invariant-loop-x : goal.invariant-loop-x
invariant-loop-x l = l.done.items ≡ map (λ x. x.value) (take l.x-index l.scalars)
