use Rattle.std.proofs.Common.{◌≡◌, ◌≤◌, length}
use Rattle.nx_shtok.specs.Bytes.{newlines}
use Rattle.nx_shtok.specs.Tokens.{comment}
use Rattle.nx_shtok.proofs.start.comment.Given as goal

abbrev pub invariant-loop-rest : goal.invariant-loop-rest
invariant-loop-rest l = record { same : comment l.rest ≡ comment l.bytes; lines : newlines l.bytes ≡ newlines l.rest; within : length l.rest ≤ length l.bytes }

abbrev pub decreases-loop-rest : goal.decreases-loop-rest
decreases-loop-rest l = length l.rest
