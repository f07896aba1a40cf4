use Rattle.std.proofs.Common.{◌≡◌, ◌+◌, ◌≤◌, length}
use Rattle.nx_shtok.specs.Bytes.{newlines}
use Rattle.nx_shtok.proofs.script_bytes.newlines.Given as goal

abbrev pub invariant-loop-rest : goal.invariant-loop-rest
invariant-loop-rest l = record { same : newlines l.bytes ≡ l.count + newlines l.rest; within : l.count + length l.rest ≤ length l.bytes }

abbrev pub decreases-loop-rest : goal.decreases-loop-rest
decreases-loop-rest l = length l.rest
