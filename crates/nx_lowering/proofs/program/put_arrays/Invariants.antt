use Rattle.std.proofs.Common.{◌≡◌, ◌++◌, drop, map}
use Rattle.nx_cobjects.specs.Starts.{array_of}
use Rattle.nx_lowering.specs.Programs.{arrays_bytes}
use Rattle.nx_lowering.proofs.program.put_arrays.Given as goal

abbrev pub invariant-loop-x : goal.invariant-loop-x
invariant-loop-x l = l.bytes ++ arrays_bytes (map array_of (drop l.x-index l.arrays)) ≡ l.fn.bytes ++ arrays_bytes (map array_of l.arrays)
