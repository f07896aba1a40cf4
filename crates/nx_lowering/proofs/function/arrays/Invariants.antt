use Rattle.std.proofs.Common.{◌≡◌, map, take}
use Rattle.nx_lower.specs.Bodies.{array_of}
use Rattle.nx_lowering.proofs.function.arrays.Given as goal

abbrev pub invariant-loop-s : goal.invariant-loop-s
invariant-loop-s l = l.all ≡ map array_of (take l.s-index l.shapes)
