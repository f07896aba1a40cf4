use Rattle.std.proofs.Common.{◌≡◌, ◌≤◌, ◌+◌, drop}
use Rattle.nx_ksys.specs.Paths.{before}
use Rattle.nx_path.specs.Entries.{seen}
use Rattle.nx_path.proofs.lookups.count_before.Given as goal

abbrev pub invariant-loop-at : goal.invariant-loop-at
invariant-loop-at l = record {
  count : l.count + before l.directory l.name (drop l.at (seen l.tree)) ≡ before l.directory l.name (seen l.tree);
  few : l.count ≤ l.at;
}
