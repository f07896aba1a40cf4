use Rattle.std.proofs.Common.{◌+◌, ◌≤◌, length}
use Rattle.nx_conditions.proofs.Tokenizing.{Reached}
use Rattle.nx_conditions.proofs.tokenize.tokens.Given as goal

abbrev pub invariant-loop-rest : goal.invariant-loop-rest
invariant-loop-rest l = record { reached : Reached l.bytes l.found l.rest; few : length l.found + length l.rest ≤ length l.bytes }

abbrev pub decreases-loop-rest : goal.decreases-loop-rest
decreases-loop-rest l = length l.rest
