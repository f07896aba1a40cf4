use Rattle.std.proofs.Common.{◌≡◌, ◌≤◌, ◌-◌, length, drop}
use Rattle.nx_ctok.specs.Scanning.{text_length, longer}
use Rattle.nx_ctok.proofs.scan.text_length.Given as goal

abbrev pub invariant-loop-count : goal.invariant-loop-count
invariant-loop-count l = record { same : text_length l.bytes ≡ longer l.count (text_length (drop l.count l.bytes)); within : l.count ≤ length l.bytes }

abbrev pub decreases-loop-count : goal.decreases-loop-count
decreases-loop-count l = length l.bytes - l.count
