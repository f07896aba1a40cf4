use Rattle.nx_space.proofs.Starts.{started_pool}
use Rattle.nx_space.proofs.Growths.{grown_pool, ended_pool}
use Rattle.nx_space.proofs.Stays.{pool_stays, paged_pool_stays}
use Rattle.nx_space.proofs.laws.the_pool_stays.Goals as goal

pub returns-clause-start : goal.returns-clause-start
returns-clause-start c = started_pool

pub returns-clause-stack : goal.returns-clause-stack
returns-clause-stack c = grown_pool

pub returns-clause-end : goal.returns-clause-end
returns-clause-end c = ended_pool

pub returns-clause-access : goal.returns-clause-access
returns-clause-access c = pool_stays

pub returns-clause-paged : goal.returns-clause-paged
returns-clause-paged c = paged_pool_stays
