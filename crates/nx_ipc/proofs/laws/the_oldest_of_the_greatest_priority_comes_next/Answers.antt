use Rattle.nx_ipc.proofs.Oldest.{next_is_oldest, no_next_message}
use Rattle.nx_ipc.proofs.laws.the_oldest_of_the_greatest_priority_comes_next.Goals as goal

pub returns-clause-next : goal.returns-clause-next
returns-clause-next c = next_is_oldest

pub returns-clause-none : goal.returns-clause-none
returns-clause-none c = no_next_message
