use Rattle.std.proofs.Common.{◌≡◌, ◌++◌, false, drop}
use Rattle.nx_calls.specs.Types.{between_blanks, added}
use Rattle.nx_calls.proofs.types.single_blanks.Given as goal

abbrev pub invariant-loop-byte : goal.invariant-loop-byte
invariant-loop-byte l = l.text ++ added l.gap (between_blanks (drop l.byte-index l.part)) ≡ added false (between_blanks l.part)
