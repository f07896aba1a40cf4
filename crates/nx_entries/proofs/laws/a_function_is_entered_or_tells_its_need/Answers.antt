use Rattle.nx_entries.proofs.Entries.{opens, tells}
use Rattle.nx_entries.proofs.laws.a_function_is_entered_or_tells_its_need.Goals as goal

pub returns-clause-opens : goal.returns-clause-opens
returns-clause-opens c = opens

pub returns-clause-tells : goal.returns-clause-tells
returns-clause-tells c = tells
