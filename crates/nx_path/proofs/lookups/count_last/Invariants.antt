use Rattle.std.proofs.Common.{◌≡◌, ◌≤◌, drop}
use Rattle.nx_path.specs.Walks.{last_count}
use Rattle.nx_path.proofs.lookups.count_last.Given as goal

abbrev pub invariant-loop-byte : goal.invariant-loop-byte
invariant-loop-byte l = record {
  last : last_count l.count (drop l.byte-index l.path) ≡ last_count 0 l.path;
  few : l.count ≤ l.byte-index;
}
