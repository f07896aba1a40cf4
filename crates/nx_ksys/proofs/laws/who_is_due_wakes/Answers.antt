use Rattle.nx_ksys.proofs.Deadlines.{idle_without_deadlines, due_threads_wake}
use Rattle.nx_ksys.proofs.laws.who_is_due_wakes.Goals as goal

pub returns-clause-idle : goal.returns-clause-idle
returns-clause-idle c = idle_without_deadlines

pub returns-clause-due : goal.returns-clause-due
returns-clause-due c = due_threads_wake
