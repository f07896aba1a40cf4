use Rattle.nx_space.proofs.Others.{one_view, none_seen}
use Rattle.nx_space.proofs.laws.a_group_sees_all_of_a_write_or_nothing.Goals as goal

pub returns-clause-shared : goal.returns-clause-shared
returns-clause-shared c = one_view

pub returns-clause-paged : goal.returns-clause-paged
returns-clause-paged c = none_seen
