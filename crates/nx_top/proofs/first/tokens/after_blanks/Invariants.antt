use Rattle.std.proofs.Common.{◌≡◌, length}
use Rattle.nx_top.specs.first.ProgramReading.{after_blanks}
use Rattle.nx_top.proofs.first.tokens.after_blanks.Given as goal

abbrev pub invariant-loop-rest : goal.invariant-loop-rest
invariant-loop-rest l = after_blanks l.rest ≡ after_blanks l.bytes

abbrev pub decreases-loop-rest : goal.decreases-loop-rest
decreases-loop-rest l = length l.rest
