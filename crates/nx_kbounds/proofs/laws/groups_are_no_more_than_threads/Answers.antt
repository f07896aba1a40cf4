use Rattle.nx_kbounds.proofs.Reached.{groups_are_few}
use Rattle.nx_kbounds.proofs.laws.groups_are_no_more_than_threads.Goals as goal

pub returns : goal.returns
returns c = groups_are_few
