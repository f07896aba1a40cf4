use Rattle.nx_ksys.proofs.Inputs.{well_formed_inputs}
use Rattle.nx_ksys.proofs.Spoken.{boot_is_of_bytes, calls_tell_bytes, choices_tell_bytes}
use Rattle.nx_ksys.proofs.laws.what_the_kernel_tells_is_words_and_bytes.Goals as goal

pub returns-clause-boot : goal.returns-clause-boot
returns-clause-boot c = boot_is_of_bytes

pub returns-clause-call : goal.returns-clause-call
returns-clause-call c = calls_tell_bytes

pub returns-clause-choice : goal.returns-clause-choice
returns-clause-choice c = choices_tell_bytes

pub returns-clause-inputs : goal.returns-clause-inputs
returns-clause-inputs c = well_formed_inputs
