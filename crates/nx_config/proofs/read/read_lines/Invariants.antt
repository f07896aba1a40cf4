use Rattle.std.proofs.Common.{◌≡◌, ◌+◌, ◌≤◌, ℕ, List, length}
use Rattle.std.specs.Map.{lookup, keys_of}
use Rattle.std.specs.Option.{option_or}
use Rattle.std.specs.Str.{bytes_eq}
use Rattle.nx_config.specs.Lines.{lines_of, entries_of, last_of, line_fault}
use Rattle.nx_config.proofs.LineByLine.{entries_from, fault_from}
use Rattle.nx_config.proofs.read.read_lines.Given as goal

abbrev pub invariant-loop-rest : goal.invariant-loop-rest
invariant-loop-rest l = (l.line + length l.rest ≤ 1048577) × (fault_from (keys_of l.table) l.line (lines_of l.rest) ≡ line_fault l.bytes)
    × ((name : List ℕ) → option_or (last_of name (entries_from l.line (lines_of l.rest))) (lookup (bytes_eq name) l.table) ≡ last_of name (entries_of l.bytes))

abbrev pub decreases-loop-rest : goal.decreases-loop-rest
decreases-loop-rest l = length l.rest
