use Rattle.std.proofs.Common.{◌≡◌, take}
use Rattle.nx_ktables.proofs.answers.ended.Given as goal

abbrev pub invariant-loop-byte : goal.invariant-loop-byte
invariant-loop-byte l = l.copy.items ≡ take l.byte-index l.text
