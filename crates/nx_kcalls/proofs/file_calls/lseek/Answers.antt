use Rattle.nx_kernel.specs.Doing.{caller_of}
use Rattle.nx_ktables.specs.State.{state_of, others_of}
use Rattle.nx_ktables.proofs.Answering.{does_as}
use Rattle.nx_kcalls.proofs.file_calls.lseek.Goals as goal

pub returns-clause-does : goal.returns-clause-does
returns-clause-does c = λ content group sized.
    let old = c.args.tables.now in
    let now = record old { objects = c.seek-offset.new.objects } in
    does_as _ _ _ _ _ (c.seek-offset.ensures.row (others_of old) old.threads content (caller_of c.args.caller c.args.place group) sized)
    (c.answer.ensures.does (state_of content now) c.args.place group)
