use Rattle.std.proofs.Common.{◌≡◌, ◌≤◌, length}
use Rattle.nx_conditions.specs.Tokens.{after_blanks}
use Rattle.nx_conditions.proofs.tokenize.after_blanks.Given as goal

abbrev pub invariant-loop-rest : goal.invariant-loop-rest
invariant-loop-rest l = record { same : after_blanks l.rest ≡ after_blanks l.bytes; fewer : length l.rest ≤ length l.bytes }

abbrev pub decreases-loop-rest : goal.decreases-loop-rest
decreases-loop-rest l = length l.rest
