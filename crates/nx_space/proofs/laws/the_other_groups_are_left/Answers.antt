use Rattle.nx_space.proofs.Starts.{started_leaves}
use Rattle.nx_space.proofs.Growths.{grown_leaves, finished_leaves}
use Rattle.nx_space.proofs.laws.the_other_groups_are_left.Goals as goal

pub returns-clause-start : goal.returns-clause-start
returns-clause-start c = started_leaves

pub returns-clause-stack : goal.returns-clause-stack
returns-clause-stack c = grown_leaves

pub returns-clause-end : goal.returns-clause-end
returns-clause-end c = finished_leaves
