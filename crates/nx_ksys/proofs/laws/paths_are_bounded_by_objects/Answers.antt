use Rattle.nx_ksys.proofs.BoundLemmas.{paths_are_few}
use Rattle.nx_ksys.proofs.Bounded.{boot_is_bounded, calls_stay_bounded, choices_stay_bounded}
use Rattle.nx_ksys.proofs.laws.paths_are_bounded_by_objects.Goals as goal

pub returns-clause-boot : goal.returns-clause-boot
returns-clause-boot c = boot_is_bounded

pub returns-clause-call : goal.returns-clause-call
returns-clause-call c = calls_stay_bounded

pub returns-clause-choice : goal.returns-clause-choice
returns-clause-choice c = choices_stay_bounded

pub returns-clause-few : goal.returns-clause-few
returns-clause-few c = paths_are_few
