use Rattle.std.proofs.Common.{◌+◌, List, [], map, sym, ap, subst, arith}
use Rattle.csv.specs.Records.{fields_of}
use Rattle.nx_calls.specs.declared.row.CallRow.{CallRow}
use Rattle.nx_calls.specs.Table.{HaveRows, Empty, Rows, IsReadOf}
use Rattle.nx_calls.specs.declared.fault.CallsFault.{CallsFault}
use Rattle.std.specs.Prelude.{Err}
use Rattle.nx_calls.proofs.TrueRows.{rows_of_records}
use Rattle.nx_calls.proofs.Judging.{fault_first, rows_all}
use Rattle.nx_calls.proofs.calls.read_records.Goals as goal

pub loop-record-init : goal.loop-record-init
loop-record-init g c = record {
  number = omega arith;
  rows = subst (λ (rows : List CallRow). HaveRows (g.M.Meanings.meaning c.args.meanings.now) [] rows) (sym c.new-rows.ensures.items) Empty;
}

pub returns-in-Err : goal.returns-in-Err
returns-in-Err g c =
    let l = c.loop-record in
    let means = g.M.Meanings.meaning c.args.meanings.now in
    subst (λ (f : CallsFault). IsReadOf means (map fields_of c.args.records.now) (Err f)) (sym c.fault.ensures)
    (fault_first means c.args.records.now l.record-index (l.number + 1) c.record-item.result l.rows.items c.take_record.new.rows.items c.in-Err.stop (omega arith) c.record-item.is (ap (λ n. n + 1) l.invariant.number) c.in-Err.ensures l.invariant.rows)

pub returns : goal.returns
returns g c =
    let l = c.loop-record in
    Rows _ l.rows.items (rows_all (g.M.Meanings.meaning c.args.meanings.now) c.args.records.now l.record-index l.rows.items c.loop-record-test.false l.invariant.rows)

pub invariant_of-result : goal.invariant_of-result
invariant_of-result g c =
    let l = c.loop-record in
    let means = g.M.Meanings.meaning c.args.meanings.now in
    rows_of_records means (map fields_of c.args.records.now) l.rows.items (rows_all means c.args.records.now l.record-index l.rows.items c.loop-record-test.false l.invariant.rows)
