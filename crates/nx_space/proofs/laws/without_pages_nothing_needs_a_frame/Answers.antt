use Rattle.nx_space.proofs.Stays.{start_needs_none, stack_needs_none}
use Rattle.nx_space.proofs.laws.without_pages_nothing_needs_a_frame.Goals as goal

pub returns-clause-start : goal.returns-clause-start
returns-clause-start c = start_needs_none

pub returns-clause-stack : goal.returns-clause-stack
returns-clause-stack c = stack_needs_none
