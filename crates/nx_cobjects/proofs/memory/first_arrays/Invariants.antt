use Rattle.std.proofs.Common.{◌≡◌, map, take}
use Rattle.nx_cobjects.specs.Starts.{array_of}
use Rattle.nx_cobjects.proofs.memory.first_arrays.Given as goal

abbrev pub invariant-loop-x : goal.invariant-loop-x
invariant-loop-x l = l.done.items ≡ map array_of (take l.x-index l.arrays)
