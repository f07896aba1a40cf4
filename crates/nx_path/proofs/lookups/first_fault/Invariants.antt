use Rattle.std.proofs.Common.{◌≡◌, take, drop, []}
use Rattle.nx_ksys.specs.Paths.{prefix_from}
use Rattle.nx_path.specs.Entries.{seen}
use Rattle.nx_path.proofs.lookups.first_fault.Given as goal

abbrev pub invariant-loop-byte : goal.invariant-loop-byte
invariant-loop-byte l = record {
  front : l.front.items ≡ take l.byte-index l.path;
  rest : prefix_from (seen l.tree) l.front.items (drop l.byte-index l.path) ≡ prefix_from (seen l.tree) [] l.path;
}
