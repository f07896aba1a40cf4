use Rattle.std.proofs.Common.{length}
use Rattle.nx_shtok.specs.Places.{Reached}
use Rattle.nx_shtok.proofs.tokenize.read_tokens.Given as goal

abbrev pub invariant-loop-alloc : goal.invariant-loop-alloc
invariant-loop-alloc l = Reached l.bytes l.reader l.rest

abbrev pub decreases-loop-alloc : goal.decreases-loop-alloc
decreases-loop-alloc l = length l.rest
