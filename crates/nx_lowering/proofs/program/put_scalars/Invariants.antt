use Rattle.std.proofs.Common.{◌≡◌, ◌++◌, drop, map}
use Rattle.nx_lowering.specs.Programs.{scalars_bytes}
use Rattle.nx_lowering.proofs.program.put_scalars.Given as goal

abbrev pub invariant-loop-x : goal.invariant-loop-x
invariant-loop-x l = l.bytes ++ scalars_bytes (map (λ x. x.value) (drop l.x-index l.scalars)) ≡ l.fn.bytes ++ scalars_bytes (map (λ x. x.value) l.scalars)
