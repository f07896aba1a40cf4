use Rattle.std.proofs.Common.{ℕ, List, [], ◌∙◌}
use Rattle.nx_pool.specs.declared.chain.Chain.{Chain}
use Rattle.nx_kernel.specs.Doing.{caller_of}
use Rattle.nx_ktables.specs.State.{state_of, others_of}
use Rattle.nx_ktables.proofs.Answering.{does_as}
use Rattle.nx_kcalls.proofs.queue_calls.open_queue.Goals as goal

pub returns-clause-does : goal.returns-clause-does
returns-clause-does c = λ content group.
    let old = c.args.tables.now in
    let now = record old { objects = c.open_queue-new.new.objects } in
    does_as _ _ _ _ _ (c.open_queue-new.ensures.row (others_of old) old.threads content (caller_of c.args.caller c.args.place group) (c.is_full-full.ensures (others_of old) old.threads content))
    (c.answer.ensures.does (state_of content now) c.args.place group)

pub open_queue-new-requires-clause-room : goal.open_queue-new-requires-clause-room
open_queue-new-requires-clause-room c = λ e.
    let old = c.args.tables.now in
    let content : Chain → List ℕ = λ h. [] in
    c.requires.paths content (c.is_full-full.ensures (others_of old) old.threads content ∙ e)
