use Rattle.std.proofs.Common.{◌≡◌, ◌≤◌, length}
use Rattle.nx_base.specs.TextBytes.{is_line_blank, without_leading}
use Rattle.nx_base.proofs.text_bytes.trim_start.Given as goal

abbrev pub invariant-loop-rest : goal.invariant-loop-rest
invariant-loop-rest l = record { same : without_leading is_line_blank l.rest ≡ without_leading is_line_blank l.bytes; shorter : length l.rest ≤ length l.bytes }

abbrev pub decreases-loop-rest : goal.decreases-loop-rest
decreases-loop-rest l = length l.rest
