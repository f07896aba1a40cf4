use Rattle.nx_ksys.proofs.Choices.{choices_change_threads}
use Rattle.nx_ksys.proofs.laws.a_choice_wakes_whom_it_answers.Goals as goal

pub returns : goal.returns
returns c = choices_change_threads
