use Rattle.nx_kernel.specs.Doing.{caller_of}
use Rattle.nx_ktables.specs.State.{state_of, others_of}
use Rattle.nx_ktables.proofs.Answering.{does_as}
use Rattle.nx_kcalls.proofs.semaphore_calls.open_semaphore.Goals as goal

pub returns-clause-does : goal.returns-clause-does
returns-clause-does c = λ content group.
    let old = c.args.tables.now in
    let now = record old { objects = c.open_semaphore-new.new.objects } in
    does_as _ _ _ _ _ (c.open_semaphore-new.ensures.row (others_of old) old.threads content (caller_of c.args.caller c.args.place group) (c.is_full-full.ensures (others_of old) old.threads content))
    (c.answer.ensures.does (state_of content now) c.args.place group)
