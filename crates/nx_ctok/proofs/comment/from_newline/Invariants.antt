use Rattle.std.proofs.Common.{◌≡◌, ◌≤◌, length}
use Rattle.nx_ctok.specs.Comments.{newlines, from_newline}
use Rattle.nx_ctok.proofs.comment.from_newline.Given as goal

abbrev pub invariant-loop-rest : goal.invariant-loop-rest
invariant-loop-rest l = record { same : from_newline l.rest ≡ from_newline l.bytes; lines : newlines l.bytes ≡ newlines l.rest; within : length l.rest ≤ length l.bytes }

abbrev pub decreases-loop-rest : goal.decreases-loop-rest
decreases-loop-rest l = length l.rest
