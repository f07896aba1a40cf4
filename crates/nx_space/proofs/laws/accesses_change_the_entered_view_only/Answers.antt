use Rattle.nx_space.proofs.Stores.{only_refl, only_trans}
use Rattle.nx_space.proofs.Stays.{free_stays}
use Rattle.nx_space.proofs.laws.accesses_change_the_entered_view_only.Goals as goal

pub returns-clause-none : goal.returns-clause-none
returns-clause-none c = only_refl

pub returns-clause-more : goal.returns-clause-more
returns-clause-more c = only_trans

pub returns-clause-frames : goal.returns-clause-frames
returns-clause-frames c = free_stays
