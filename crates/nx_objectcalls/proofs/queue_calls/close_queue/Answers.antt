use Rattle.std.proofs.Common.{sym, ap, ◌∙◌}
use Rattle.nx_ksys.specs.QueueCalls.{mq_close_row, close_queue}
use Rattle.nx_objects.specs.Tables.{with_objects}
use Rattle.nx_objects.specs.Rows.{at_place}
use Rattle.nx_objectcalls.specs.Rows.{queue_led}
use Rattle.nx_objectcalls.proofs.Closing.{no_queue_closes, queue_closes}
use Rattle.nx_objectcalls.proofs.queue_calls.close_queue.Goals as goal

pub returns-in-None-clause-row : goal.returns-in-None-clause-row
unfolding mq_close_row
returns-in-None-clause-row g c = λ k d.
    let a = c.args in
    let content = g.B.BlockStore.content a.blocks.now in
    let old = with_objects k a.threads.now content a.objects.now in
    ap (close_queue old (at_place d a.group) a.fd) (c.queue_at.ensures k a.threads.now content d ∙ ap (queue_led old) c.in-None.is)

pub returns-then-not-has-clause-row : goal.returns-then-not-has-clause-row
unfolding mq_close_row
returns-then-not-has-clause-row g c = λ k d.
    let a = c.args in
    let content = g.B.BlockStore.content a.blocks.now in
    let old = with_objects k a.threads.now content a.objects.now in
    ap (close_queue old (at_place d a.group) a.fd) (c.queue_at.ensures k a.threads.now content d ∙ ap (queue_led old) c.in-Some.is)
    ∙ no_queue_closes old (at_place d a.group) a.fd c.in-Some.led.place c.in-Some.led.flags _ (sym (c.has.ensures content) ∙ c.if-not-has.true)

pub returns-else-not-has-clause-row : goal.returns-else-not-has-clause-row
unfolding mq_close_row
returns-else-not-has-clause-row g c = λ k d.
    let a = c.args in
    let content = g.B.BlockStore.content a.blocks.now in
    let old = with_objects k a.threads.now content a.objects.now in
    ap (close_queue old (at_place d a.group) a.fd) (c.queue_at.ensures k a.threads.now content d ∙ ap (queue_led old) c.in-Some.is)
    ∙ queue_closes old _ (at_place d a.group) a.fd c.in-Some.led.place c.in-Some.led.flags _ (sym (c.has.ensures content) ∙ c.if-not-has.false) (c.close.ensures.state k)
