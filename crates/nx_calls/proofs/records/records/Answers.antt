use Rattle.std.proofs.Common.{arith}
use Rattle.std.proofs.lemmas.List.{length-map}
use Rattle.csv.specs.Records.{fields_of}
use Rattle.nx_calls.proofs.RecordCounts.{few_records}
use Rattle.nx_calls.proofs.records.records.Goals as goal

pub returns-in-Ok-clause-few : goal.returns-in-Ok-clause-few
returns-in-Ok-clause-few c = omega (arith, few_records _ _ c.args.text.now _ c.in-Ok.ensures, length-map c.in-Ok.records.items fields_of)
