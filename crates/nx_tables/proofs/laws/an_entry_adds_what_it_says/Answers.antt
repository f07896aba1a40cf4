use Rattle.nx_tables.proofs.Steps.{root_step, table_step, page_step}
use Rattle.nx_tables.proofs.laws.an_entry_adds_what_it_says.Goals as goal

pub returns-clause-root : goal.returns-clause-root
returns-clause-root c = root_step

pub returns-clause-table : goal.returns-clause-table
returns-clause-table c = table_step

pub returns-clause-page : goal.returns-clause-page
returns-clause-page c = page_step
