use Rattle.nx_kbounds.proofs.Reached.{boot_takes_places, calls_take_none, choices_take_none, ends_take_none}
use Rattle.nx_kbounds.proofs.laws.tables_keep_their_places.Goals as goal

pub returns-clause-boot : goal.returns-clause-boot
returns-clause-boot c = boot_takes_places

pub returns-clause-call : goal.returns-clause-call
returns-clause-call c = calls_take_none

pub returns-clause-choice : goal.returns-clause-choice
returns-clause-choice c = choices_take_none

pub returns-clause-end : goal.returns-clause-end
returns-clause-end c = ends_take_none
