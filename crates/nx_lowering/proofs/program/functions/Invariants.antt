use Rattle.std.proofs.Common.{◌≡◌, ◌++◌, drop, map}
use Rattle.nx_checked.specs.Trees.{fun_of}
use Rattle.nx_lower.specs.Bodies.{lower_fun, lowered}
use Rattle.nx_lowerexpr.specs.Sources.{source_of}
use Rattle.nx_lowering.proofs.program.functions.Given as goal

-- The functions so far, before those that are left, are all of them.
abbrev pub invariant-loop-g : goal.invariant-loop-g
invariant-loop-g l = l.all ++ map (lower_fun (source_of l.program)) (map fun_of (drop l.g-index l.program.functions)) ≡ lowered (source_of l.program)
