use Rattle.nx_tables.proofs.Views.{seen_put, seen_other}
use Rattle.nx_tables.proofs.laws.a_store_shows_in_its_window.Goals as goal

pub returns-clause-put : goal.returns-clause-put
returns-clause-put c = seen_put

pub returns-clause-other : goal.returns-clause-other
returns-clause-other c = seen_other
