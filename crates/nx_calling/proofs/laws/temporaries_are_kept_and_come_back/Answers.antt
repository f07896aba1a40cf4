use Rattle.nx_calling.proofs.Keeping.{kept, come_back}
use Rattle.nx_calling.proofs.laws.temporaries_are_kept_and_come_back.Goals as goal

pub returns-clause-kept : goal.returns-clause-kept
returns-clause-kept c = kept

pub returns-clause-back : goal.returns-clause-back
returns-clause-back c = come_back
