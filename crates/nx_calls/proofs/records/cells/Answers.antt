use Rattle.csv.specs.Records.{fields_of}
use Rattle.nx_calls.proofs.RecordCounts.{cells_next, cells_end}
use Rattle.nx_calls.proofs.records.cells.Goals as goal

pub loop-field-preserved : goal.loop-field-preserved
loop-field-preserved c =
    cells_next c.loop-field.cells.items c.push.new.self.items c.trimmed.result (fields_of c.args.row.now) c.loop-field.at c.in-Some.field.now
    c.in_ok-push.ensures.items c.trimmed.ensures c.in-Some.ensures.value c.loop-field.invariant

pub returns : goal.returns
returns c = cells_end c.loop-field.cells.items (fields_of c.args.row.now) c.loop-field.at c.in_default.ensures.value c.loop-field.invariant
