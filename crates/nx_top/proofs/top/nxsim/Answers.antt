use Rattle.std.proofs.Common.{refl}
use Rattle.nx_outside.proofs.Puts.{Wrote-nothing}
use Rattle.nx_top.proofs.Causes.{every_command, of_run, of_gates, no_memory_every, no_memory_run, no_memory_gates}
use Rattle.nx_top.proofs.top.nxsim.Goals as goal

pub returns-in-Ok-clause-every_command : goal.returns-in-Ok-clause-every_command
returns-in-Ok-clause-every_command g c = every_command _ (record { answer = c.in-Ok.answer; cause = c.in-Ok.ensures; ends = c.put_answer.ensures })

pub returns-in-Ok-clause-run : goal.returns-in-Ok-clause-run
returns-in-Ok-clause-run g c = of_run _ (record { answer = c.in-Ok.answer; cause = c.in-Ok.ensures; ends = c.put_answer.ensures })

pub returns-in-Ok-clause-gates : goal.returns-in-Ok-clause-gates
returns-in-Ok-clause-gates g c = of_gates _ (record { answer = c.in-Ok.answer; cause = c.in-Ok.ensures; ends = c.put_answer.ensures })

pub returns-in-Err-clause-every_command : goal.returns-in-Err-clause-every_command
returns-in-Err-clause-every_command g c = no_memory_every _ refl (Wrote-nothing _)

pub returns-in-Err-clause-run : goal.returns-in-Err-clause-run
returns-in-Err-clause-run g c = no_memory_run _ refl (Wrote-nothing _)

pub returns-in-Err-clause-gates : goal.returns-in-Err-clause-gates
returns-in-Err-clause-gates g c = no_memory_gates _ refl (Wrote-nothing _)
