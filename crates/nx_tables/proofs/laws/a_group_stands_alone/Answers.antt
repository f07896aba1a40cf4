use Rattle.nx_tables.proofs.Kept.{stands_kept, end_frees}
use Rattle.nx_tables.proofs.Views.{seen_kept}
use Rattle.nx_tables.proofs.laws.a_group_stands_alone.Goals as goal

pub returns-clause-tables : goal.returns-clause-tables
returns-clause-tables c = stands_kept

pub returns-clause-windows : goal.returns-clause-windows
returns-clause-windows c = seen_kept

pub returns-clause-end : goal.returns-clause-end
returns-clause-end c = end_frees
