use Rattle.nx_ksys.proofs.Starting.{boot_is_sound}
use Rattle.nx_ksys.proofs.Steps.{calls_stay_sound}
use Rattle.nx_ksys.proofs.Choices.{choices_stay_sound}
use Rattle.nx_ksys.proofs.laws.the_kernel_stays_sound.Goals as goal

pub returns-clause-boot : goal.returns-clause-boot
returns-clause-boot c = boot_is_sound

pub returns-clause-call : goal.returns-clause-call
returns-clause-call c = calls_stay_sound

pub returns-clause-choice : goal.returns-clause-choice
returns-clause-choice c = choices_stay_sound
