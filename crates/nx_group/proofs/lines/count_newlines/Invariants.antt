use Rattle.std.proofs.Common.{◌≡◌, ◌≤◌, take}
use Rattle.std.specs.List.{count_by}
use Rattle.nx_group.specs.Lines.{is_newline}
use Rattle.nx_group.proofs.lines.count_newlines.Given as goal

abbrev pub invariant-loop-byte : goal.invariant-loop-byte
invariant-loop-byte l = record { count : l.count ≡ count_by is_newline (take l.byte-index l.text); few : l.count ≤ l.byte-index }
