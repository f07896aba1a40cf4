use Rattle.std.proofs.Common.{◌≡◌, ◌≤◌, take}
use Rattle.std.specs.List.{count_by}
use Rattle.nx_ksys.specs.State.{is_made_directory}
use Rattle.nx_path.specs.Entries.{seen}
use Rattle.nx_path.proofs.entries.made_directories.Given as goal

abbrev pub invariant-loop-at : goal.invariant-loop-at
invariant-loop-at l = record {
  count : l.count ≡ count_by is_made_directory (take l.at (seen l.tree));
  few : l.count ≤ l.at;
}
