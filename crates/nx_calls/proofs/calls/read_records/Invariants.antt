use Rattle.std.proofs.Common.{◌≡◌, map, take}
use Rattle.csv.specs.Records.{fields_of}
use Rattle.nx_calls.specs.Table.{HaveRows}
use Rattle.nx_calls.proofs.calls.read_records.Given as goal

abbrev pub invariant-loop-record : goal.invariant-loop-record
invariant-loop-record g l = record {
  number : l.number ≡ l.record-index;
  rows : HaveRows (g.M.Meanings.meaning l.meanings) (map fields_of (take l.record-index l.records)) l.rows.items;
}
