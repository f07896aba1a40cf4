use Rattle.nx_tables.proofs.Walked.{walk_mapped, root_tells}
use Rattle.nx_tables.proofs.laws.the_walk_gives_what_is_mapped.Goals as goal

pub returns-clause-walk : goal.returns-clause-walk
returns-clause-walk c = walk_mapped

pub returns-clause-root : goal.returns-clause-root
returns-clause-root c = root_tells
