use Rattle.nx_calls.specs.Meanings.{meaning_in}
use Rattle.nx_calls.proofs.OneTable.{given_by}
use Rattle.nx_calls.proofs.read.read_calls.Goals as goal

pub returns-clause-only : goal.returns-clause-only
returns-clause-only c = λ r h. given_by (meaning_in c.args.config.now) c.args.bytes.now c.read_table.result r c.read_table.ensures h
