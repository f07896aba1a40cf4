use Rattle.std.proofs.Common.{◌≡◌, length}
use Rattle.nx_shtree.specs.Words.{are_bytes}
use Rattle.nx_shtree.proofs.keyword.are_bytes.Given as goal

abbrev pub invariant-loop-rest : goal.invariant-loop-rest
invariant-loop-rest l = are_bytes l.rest l.left ≡ are_bytes l.bytes l.parts

abbrev pub decreases-loop-rest : goal.decreases-loop-rest
decreases-loop-rest l = length l.rest
