use Rattle.std.proofs.Common.{ap, ◌∙◌}
use Rattle.nx_kernel.specs.Doing.{caller_of}
use Rattle.nx_ktables.specs.State.{state_of, others_of}
use Rattle.nx_ktables.proofs.Answering.{does_as}
use Rattle.nx_ksys.specs.SemaphoreCalls.{sem_trywait_row, try_on}
use Rattle.nx_objectcalls.specs.Rows.{semaphore_led}
use Rattle.nx_kcalls.proofs.semaphore_calls.try_wait.Goals as goal

pub returns-in-None-clause-does : goal.returns-in-None-clause-does
unfolding sem_trywait_row
returns-in-None-clause-does c = λ content group.
    let old = c.args.tables.now in
    let k = state_of content old in
    let who = caller_of c.args.caller c.args.place group in
    does_as _ _ _ _ _ (ap (try_on k who) (c.semaphore_at.ensures (others_of old) old.threads content who ∙ ap (semaphore_led k) c.in-None.is))
    (c.done.ensures.does k c.args.place group)

pub returns-in-Some-clause-does : goal.returns-in-Some-clause-does
unfolding sem_trywait_row
returns-in-Some-clause-does c = λ content group.
    let old = c.args.tables.now in
    let k = state_of content old in
    let now = record old { objects = record old.objects { semaphores = c.try_wait-outcome.new.self } } in
    let who = caller_of c.args.caller c.args.place group in
    does_as _ _ _ _ _ (ap (try_on k who) (c.semaphore_at.ensures (others_of old) old.threads content who ∙ ap (semaphore_led k) c.in-Some.is) ∙ c.try_wait-outcome.ensures k who)
    (c.done-in-Some.ensures.does (state_of content now) c.args.place group)
