use Rattle.nx_kbounds.proofs.Reached.{boot_is_few, calls_stay_few, choices_stay_few, ends_stay_few}
use Rattle.nx_kbounds.proofs.laws.numbers_bound_what_is_kept.Goals as goal

pub returns-clause-boot : goal.returns-clause-boot
returns-clause-boot c = boot_is_few

pub returns-clause-call : goal.returns-clause-call
returns-clause-call c = calls_stay_few

pub returns-clause-choice : goal.returns-clause-choice
returns-clause-choice c = choices_stay_few

pub returns-clause-end : goal.returns-clause-end
returns-clause-end c = ends_stay_few
