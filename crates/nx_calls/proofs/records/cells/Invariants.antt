use Rattle.std.proofs.Common.{◌≡◌, ◌++◌, ◌-◌, drop, map, length}
use Rattle.csv.specs.Records.{fields_of}
use Rattle.nx_base.specs.TextBytes.{is_line_blank, trimmed_of}
use Rattle.nx_calls.proofs.records.cells.Given as goal

abbrev pub invariant-loop-field : goal.invariant-loop-field
invariant-loop-field l = map (λ f. f.now) l.cells.items ++ map (trimmed_of is_line_blank) (drop l.at (fields_of l.row)) ≡ map (trimmed_of is_line_blank) (fields_of l.row)

abbrev pub decreases-loop-field : goal.decreases-loop-field
decreases-loop-field l = length l.row.ends - l.at
