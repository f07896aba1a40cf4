use Rattle.nx_kbounds.proofs.Reached.{boot_is_timely, calls_stay_timely, choices_stay_timely, ends_stay_timely}
use Rattle.nx_kbounds.proofs.laws.time_is_bounded_by_moments.Goals as goal

pub returns-clause-boot : goal.returns-clause-boot
returns-clause-boot c = boot_is_timely

pub returns-clause-call : goal.returns-clause-call
returns-clause-call c = calls_stay_timely

pub returns-clause-choice : goal.returns-clause-choice
returns-clause-choice c = choices_stay_timely

pub returns-clause-end : goal.returns-clause-end
returns-clause-end c = ends_stay_timely
