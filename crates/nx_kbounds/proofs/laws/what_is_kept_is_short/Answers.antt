use Rattle.nx_kbounds.proofs.Reached.{boot_is_short, calls_stay_short, choices_stay_short, ends_stay_short}
use Rattle.nx_kbounds.proofs.laws.what_is_kept_is_short.Goals as goal

pub returns-clause-boot : goal.returns-clause-boot
returns-clause-boot c = boot_is_short

pub returns-clause-call : goal.returns-clause-call
returns-clause-call c = calls_stay_short

pub returns-clause-choice : goal.returns-clause-choice
returns-clause-choice c = choices_stay_short

pub returns-clause-end : goal.returns-clause-end
returns-clause-end c = ends_stay_short
