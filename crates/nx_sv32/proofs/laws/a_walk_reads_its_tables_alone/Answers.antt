use Rattle.nx_sv32.proofs.Tables.{tables_alone}
use Rattle.nx_sv32.proofs.laws.a_walk_reads_its_tables_alone.Goals as goal

pub returns : goal.returns
returns c = tables_alone
