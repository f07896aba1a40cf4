use Rattle.nx_space.proofs.Stays.{entered_stays, good_stays}
use Rattle.nx_space.proofs.laws.what_is_good_stays_good.Goals as goal

pub returns-clause-entered : goal.returns-clause-entered
returns-clause-entered c = entered_stays

pub returns-clause-good : goal.returns-clause-good
returns-clause-good c = good_stays
