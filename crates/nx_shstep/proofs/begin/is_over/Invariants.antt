use Rattle.std.proofs.Common.{◌≡◌, drop, length, nat_lt}
use Rattle.nx_shrun.specs.Texts.{lines}
use Rattle.nx_shstep.proofs.begin.is_over.Given as goal

abbrev pub invariant-loop-word : goal.invariant-loop-word
invariant-loop-word l = nat_lt l.left (length (lines (drop l.word-index l.words))) ≡ nat_lt l.room (length (lines l.words))
