use Rattle.nx_ksys.proofs.Steps.{calls_change_threads}
use Rattle.nx_ksys.proofs.laws.a_call_changes_the_threads_as_it_answers.Goals as goal

pub returns : goal.returns
returns c = calls_change_threads
