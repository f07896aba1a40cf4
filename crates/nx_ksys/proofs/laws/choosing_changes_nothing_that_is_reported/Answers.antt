use Rattle.nx_ksys.proofs.Still.{picking_is_still, chosen_again, ended_without_groups}
use Rattle.nx_ksys.proofs.laws.choosing_changes_nothing_that_is_reported.Goals as goal

pub returns-clause-still : goal.returns-clause-still
returns-clause-still c = picking_is_still

pub returns-clause-again : goal.returns-clause-again
returns-clause-again c = chosen_again

pub returns-clause-ended : goal.returns-clause-ended
returns-clause-ended c = ended_without_groups
