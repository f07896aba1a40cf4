use Rattle.nx_ksys.proofs.Steps.{numbers_were_given, slots_differ}
use Rattle.nx_ksys.proofs.laws.live_threads_have_numbers_and_slots_of_their_own.Goals as goal

pub returns-clause-given : goal.returns-clause-given
returns-clause-given c = numbers_were_given

pub returns-clause-slots : goal.returns-clause-slots
returns-clause-slots c = slots_differ
