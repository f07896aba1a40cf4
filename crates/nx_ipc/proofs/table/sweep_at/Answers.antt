use Rattle.std.proofs.Common.{sym, ◌∙◌, arith, ap}
use Rattle.std.specs.Prelude.{None, Some, length}
use Rattle.std.proofs.lemmas.List.{map-set, length-map}
use Rattle.nx_ksys.specs.Descriptors.{kept_if}
use Rattle.nx_ipc.specs.Tables.{queues_of, queue_seen}
use Rattle.nx_ipc.proofs.Messages.{place_of, queue_held, queue_goes, set_past}
use Rattle.nx_ipc.proofs.table.sweep_at.Goals as goal

pub returns-then-place-queues-clause-queues : goal.returns-then-place-queues-clause-queues
returns-then-place-queues-clause-queues g c =
    let content = g.B.BlockStore.content c.args.blocks.now in
    rw c.if-lives.false (sym (set_past (queues_of content c.args.queues.now) c.args.place None (omega (arith, length-map c.args.queues.now (queue_seen content)))))

pub give_all-requires : goal.give_all-requires
give_all-requires g c = record { held = queue_held _ c.args.queues.now c.args.place c.in-Some.queue c.requires.held (place_of c.args.queues.now c.args.place (Some c.in-Some.queue) _ (omega arith) (sym c.replace.ensures.value ∙ c.in-Some.is)) }

pub returns-in-None-clause-queues : goal.returns-in-None-clause-queues
returns-in-None-clause-queues g c = rw (c.if-lives.false, c.replace.ensures.after) (map-set (queue_seen (g.B.BlockStore.content c.args.blocks.now)) c.args.queues.now c.args.place None)

pub returns-in-Some-clause-queues : goal.returns-in-Some-clause-queues
returns-in-Some-clause-queues g c =
    let at = place_of c.args.queues.now c.args.place (Some c.in-Some.queue) _ (omega arith) (sym c.replace.ensures.value ∙ c.in-Some.is) in
    rw (c.if-lives.false, c.replace.ensures.after) (queue_goes _ _ _ _ c.args.queues.now c.args.place c.in-Some.queue c.requires.held at c.give_all.ensures.moves).state

pub returns-in-Some-clause-moves : goal.returns-in-Some-clause-moves
returns-in-Some-clause-moves g c =
    let at = place_of c.args.queues.now c.args.place (Some c.in-Some.queue) _ (omega arith) (sym c.replace.ensures.value ∙ c.in-Some.is) in
    rw c.replace.ensures.after (queue_goes _ _ _ _ c.args.queues.now c.args.place c.in-Some.queue c.requires.held at c.give_all.ensures.moves).moves
