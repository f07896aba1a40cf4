use Rattle.nx_ksys.proofs.Steps.{same_meaning_same_step, nobodys_call_is_silent}
use Rattle.nx_ksys.proofs.laws.what_a_call_means_decides_it.Goals as goal

pub returns-clause-same : goal.returns-clause-same
returns-clause-same c = same_meaning_same_step

pub returns-clause-nobody : goal.returns-clause-nobody
returns-clause-nobody c = nobodys_call_is_silent
