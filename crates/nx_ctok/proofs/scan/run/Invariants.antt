use Rattle.std.proofs.Common.{◌≡◌, ◌+◌, length}
use Rattle.nx_ctok.specs.Scanning.{run}
use Rattle.nx_ctok.proofs.scan.run.Given as goal

abbrev pub invariant-loop-rest : goal.invariant-loop-rest
invariant-loop-rest l = record { same : run l.class l.bytes ≡ l.count + run l.class l.rest; whole : l.count + length l.rest ≡ length l.bytes }

abbrev pub decreases-loop-rest : goal.decreases-loop-rest
decreases-loop-rest l = length l.rest
