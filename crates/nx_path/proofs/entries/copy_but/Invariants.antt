use Rattle.std.proofs.Common.{◌≡◌, ◌≤◌, ◌+◌, take, length}
use Rattle.indexmap.specs.IndexMap.{spare}
use Rattle.nx_ksys.specs.Paths.{entries_but}
use Rattle.nx_path.specs.Entries.{seen}
use Rattle.nx_path.proofs.entries.copy_but.Given as goal

abbrev pub invariant-loop-at : goal.invariant-loop-at
invariant-loop-at l = record {
  entries : seen l.into ≡ entries_but l.path (take l.at (seen l.from));
  room : length l.from.entries ≤ spare l.into + l.at;
  fewer : length l.into.entries ≤ l.at;
  capacity : spare l.initial.into ≤ spare l.into + length l.into.entries;
}
