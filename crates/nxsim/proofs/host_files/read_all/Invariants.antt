use Rattle.std.proofs.Common.{◌≡◌, ◌+◌, ◌-◌, ◌≤◌, length}
use Rattle.std.specs.Io.KnownBytes.{Consumes}
use Rattle.nx_outside.specs.Outside.{longest}
use Rattle.nxsim.proofs.host_files.read_all.Given as goal

-- What was read so far is what the reader gave.
abbrev pub invariant-loop-file : goal.invariant-loop-file
invariant-loop-file g l = record {
  within : length l.into.items ≤ longest + 1;
  consumed : Consumes (g.F.Read.remaining l.initial.file.inner) (g.F.Read.remaining l.file.inner) l.into.items;
  faults : l.file.failed ≡ l.initial.file.failed;
}

abbrev pub decreases-loop-file : goal.decreases-loop-file
decreases-loop-file g l = longest + 1 - length l.into.items
