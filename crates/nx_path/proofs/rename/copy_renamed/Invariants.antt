use Rattle.std.proofs.Common.{◌≡◌, ◌≤◌, ◌+◌, take, length}
use Rattle.indexmap.specs.IndexMap.{spare}
use Rattle.nx_ksys.specs.TreeCalls.{renamed_entries}
use Rattle.nx_path.specs.Entries.{seen}
use Rattle.nx_path.proofs.rename.copy_renamed.Given as goal

abbrev pub invariant-loop-at : goal.invariant-loop-at
invariant-loop-at l = record {
  entries : seen l.into ≡ renamed_entries l.first l.second (take l.at (seen l.from));
  room : length l.from.entries ≤ spare l.into + l.at;
  capacity : spare l.initial.into ≤ spare l.into + length l.into.entries;
}
