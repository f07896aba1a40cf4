use Rattle.std.proofs.Common.{◌≡◌, ◌+◌, ◌≤◌, length}
use Rattle.nx_ctok.specs.Comments.{newlines, after_close}
use Rattle.nx_ctok.proofs.comment.after_close.Given as goal

abbrev pub invariant-loop-rest : goal.invariant-loop-rest
invariant-loop-rest l = record { same : after_close l.rest ≡ after_close l.bytes; lines : newlines l.bytes ≡ l.lines + newlines l.rest; within : l.lines + length l.rest ≤ length l.bytes }

abbrev pub decreases-loop-rest : goal.decreases-loop-rest
decreases-loop-rest l = length l.rest
