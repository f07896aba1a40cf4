use Rattle.std.proofs.Common.{length}
use Rattle.nx_shtok.specs.Places.{WordOn}
use Rattle.nx_shtok.proofs.word.word.Given as goal

abbrev pub invariant-loop-begun : goal.invariant-loop-begun
invariant-loop-begun l = WordOn l.bytes l.begun l.rest

abbrev pub decreases-loop-begun : goal.decreases-loop-begun
decreases-loop-begun l = length l.rest
