use Rattle.std.proofs.Common.{◌≡◌, ◌≤◌, take}
use Rattle.std.specs.List.{count_by}
use Rattle.std.specs.Option.{is_some}
use Rattle.nx_fs.proofs.chains.count_chains.Given as goal

abbrev pub invariant-loop-chain : goal.invariant-loop-chain
invariant-loop-chain l = record {
  count : l.count ≡ count_by is_some (take l.chain-index l.chains);
  few : l.count ≤ l.chain-index;
}
