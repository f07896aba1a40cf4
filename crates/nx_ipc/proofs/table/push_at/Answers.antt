use Rattle.std.proofs.Common.{refl, ap, arith}
use Rattle.std.specs.Prelude.{Some, None}
use Rattle.nx_ksys.specs.Threads.{flat}
use Rattle.nx_ipc.proofs.Messages.{place_of, no_one}
use Rattle.nx_ipc.proofs.Joins.{pushed, pushed_row}
use Rattle.nx_ipc.proofs.table.push_at.Goals as goal

pub returns-in-None-clause-queues : goal.returns-in-None-clause-queues
returns-in-None-clause-queues c = absurd (no_one c.args.queues.now c.args.place (place_of c.args.queues.now c.args.place None _ c.requires.inside c.in-None.is) c.requires.there)

pub returns-in-None-clause-pushed : goal.returns-in-None-clause-pushed
returns-in-None-clause-pushed c = absurd (no_one c.args.queues.now c.args.place (place_of c.args.queues.now c.args.place None _ c.requires.inside c.in-None.is) c.requires.there)

pub push-requires : goal.push-requires
push-requires c = (omega arith, c.requires.few c.in-Some.queue (ap flat (place_of c.args.queues.now c.args.place (Some c.in-Some.queue) _ c.requires.inside c.in-Some.is)))

pub returns-in-Some-clause-queues : goal.returns-in-Some-clause-queues
returns-in-Some-clause-queues c = λ content s e.
    let at = place_of c.args.queues.now c.args.place (Some c.in-Some.queue) _ c.requires.inside c.in-Some.is in
    pushed_row content c.args.queues.now c.args.place c.in-Some.queue (record { limit = c.in-Some.queue.limit; size = c.in-Some.queue.size; messages = c.push.new.self }) c.args.message s at refl refl c.push.ensures.items e

pub returns-in-Some-clause-pushed : goal.returns-in-Some-clause-pushed
returns-in-Some-clause-pushed c =
    let at = place_of c.args.queues.now c.args.place (Some c.in-Some.queue) _ c.requires.inside c.in-Some.is in
    pushed c.args.queues.now c.args.place c.in-Some.queue (record { limit = c.in-Some.queue.limit; size = c.in-Some.queue.size; messages = c.push.new.self }) c.args.message at c.requires.inside c.push.ensures.items
