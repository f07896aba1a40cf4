use Rattle.std.proofs.Common.{ap, sym, ◌∙◌, ◌≡◌, arith, length, subst}
use Rattle.std.specs.Prelude.{Some, None, IsSome, slice_get, slice_set}
use Rattle.std.proofs.lemmas.List.{set-get_or}
use Rattle.nx_ksys.specs.Threads.{flat}
use Rattle.nx_ksys.specs.State as state
use Rattle.nx_ipc.specs.Tables.{queues_of, queue_in, queue_seen}
use Rattle.nx_ipc.proofs.Messages.{place_of, queue_held, queue_becomes, get_map, get_set}
use Rattle.nx_ipc.proofs.Rows.{next_at, no_next_at, few_then, there_then, same_then}
use Rattle.nx_ipc.proofs.table.receive_at.Goals as goal

pub receive-requires-clause-held : goal.receive-requires-clause-held
receive-requires-clause-held g c = queue_held _ c.args.queues.now c.args.place c.in-Some.queue c.requires.held (place_of c.args.queues.now c.args.place (Some c.in-Some.queue) _ c.requires.inside c.in-Some.is)

pub returns-in-None-clause-none : goal.returns-in-None-clause-none
returns-in-None-clause-none g c = λ q e.
    let at = get_map (queue_seen (g.B.BlockStore.content c.args.blocks.now)) c.args.queues.now c.args.place None (place_of c.args.queues.now c.args.place None _ c.requires.inside c.in-None.is) in
    absurd cc

pub returns-in-Some-clause-some : goal.returns-in-Some-clause-some
returns-in-Some-clause-some g c =
    let content = g.B.BlockStore.content c.args.blocks.now in
    let at = place_of c.args.queues.now c.args.place (Some c.in-Some.queue) _ c.requires.inside c.in-Some.is in
    let step = queue_becomes _ _ _ _ c.args.queues.now c.args.place c.in-Some.queue c.receive.new.queue c.requires.held at c.receive.ensures.moves in
    next_at c.receive.result c.args.room c.receive.new.into c.args.place (queue_in content c.in-Some.queue) _ (queues_of content c.args.queues.now) _ c.receive.ensures.some (get_map (queue_seen content) c.args.queues.now c.args.place (Some c.in-Some.queue) at) step.state

pub returns-in-Some-clause-few : goal.returns-in-Some-clause-few
returns-in-Some-clause-few g c =
    let at = place_of c.args.queues.now c.args.place (Some c.in-Some.queue) _ c.requires.inside c.in-Some.is in
    few_then c.receive.result c.args.place c.receive.new.queue _ c.receive.ensures.few (get_set c.args.queues.now c.args.place (Some c.receive.new.queue) (Some c.in-Some.queue) at)

pub returns-in-Some-clause-there : goal.returns-in-Some-clause-there
returns-in-Some-clause-there g c = λ h.
    let at = place_of c.args.queues.now c.args.place (Some c.in-Some.queue) _ c.requires.inside c.in-Some.is in
    there_then c.args.queues.now c.args.place c.receive.new.queue (Some c.in-Some.queue) at

pub returns-in-Some-clause-none : goal.returns-in-Some-clause-none
returns-in-Some-clause-none g c =
    let content = g.B.BlockStore.content c.args.blocks.now in
    let at = place_of c.args.queues.now c.args.place (Some c.in-Some.queue) _ c.requires.inside c.in-Some.is in
    no_next_at c.receive.result c.args.place (queue_in content c.in-Some.queue) (queues_of content c.args.queues.now) c.receive.ensures.none (get_map (queue_seen content) c.args.queues.now c.args.place (Some c.in-Some.queue) at)

pub returns-in-Some-clause-same : goal.returns-in-Some-clause-same
returns-in-Some-clause-same g c =
    let at = place_of c.args.queues.now c.args.place (Some c.in-Some.queue) _ c.requires.inside c.in-Some.is in
    same_then c.receive.result c.args.place c.in-Some.queue c.receive.new.queue c.args.queues.now _ _ c.receive.ensures.same at

pub returns-in-Some-clause-moves : goal.returns-in-Some-clause-moves
returns-in-Some-clause-moves g c =
    let at = place_of c.args.queues.now c.args.place (Some c.in-Some.queue) _ c.requires.inside c.in-Some.is in
    (queue_becomes _ _ _ _ c.args.queues.now c.args.place c.in-Some.queue c.receive.new.queue c.requires.held at c.receive.ensures.moves).moves
