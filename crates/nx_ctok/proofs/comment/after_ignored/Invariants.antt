use Rattle.std.proofs.Common.{◌≡◌, ◌≤◌, length}
use Rattle.nx_ctok.specs.Comments.{newlines, all_steps, after_one_ignored}
use Rattle.nx_ctok.proofs.comment.after_ignored.Given as goal

abbrev pub invariant-loop-after : goal.invariant-loop-after
invariant-loop-after l = record { same : all_steps after_one_ignored l.rest ≡ all_steps after_one_ignored l.bytes; lines : newlines l.bytes ≡ newlines l.rest; within : length l.rest ≤ length l.bytes }

abbrev pub decreases-loop-after : goal.decreases-loop-after
decreases-loop-after l = length l.rest
