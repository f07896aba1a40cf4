use Rattle.std.proofs.Common.{◌≡◌, ◌++◌, length}
use Rattle.nx_shtree.proofs.copy.copied_parts.Given as goal

abbrev pub invariant-loop-rest : goal.invariant-loop-rest
invariant-loop-rest l = l.copy ++ l.rest ≡ l.parts

abbrev pub decreases-loop-rest : goal.decreases-loop-rest
decreases-loop-rest l = length l.rest
