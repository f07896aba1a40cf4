use Rattle.nx_kbounds.proofs.Describing.{boot_is_led, calls_stay_led, choices_stay_led, ends_stay_led, descriptions_are_few}
use Rattle.nx_kbounds.proofs.laws.nothing_leads_nowhere.Goals as goal

pub returns-clause-boot : goal.returns-clause-boot
returns-clause-boot c = boot_is_led

pub returns-clause-call : goal.returns-clause-call
returns-clause-call c = calls_stay_led

pub returns-clause-choice : goal.returns-clause-choice
returns-clause-choice c = choices_stay_led

pub returns-clause-end : goal.returns-clause-end
returns-clause-end c = ends_stay_led

pub returns-clause-few : goal.returns-clause-few
returns-clause-few c = descriptions_are_few
