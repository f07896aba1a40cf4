use Rattle.std.proofs.Common.{sym, ap, ◌∙◌}
use Rattle.nx_ksys.specs.QueueCalls.{queue_of, queue_behind, queue_to}
use Rattle.nx_objects.specs.Tables.{with_objects}
use Rattle.nx_objects.specs.Rows.{found_as}
use Rattle.nx_objectcalls.proofs.leading.queue_at.Goals as goal

pub returns-in-None : goal.returns-in-None
unfolding queue_of
returns-in-None c = λ k s content d. ap (queue_behind (with_objects k s content c.args.objects.now)) (sym (c.opened.ensures.found k s content) ∙ ap found_as c.in-None.is)

pub returns-in-Queue : goal.returns-in-Queue
unfolding queue_of
returns-in-Queue c = λ k s content d.
    let old = with_objects k s content c.args.objects.now in
    ap (queue_behind old) (sym (c.opened.ensures.found k s content) ∙ ap found_as c.in-Some.is) ∙ ap (queue_to old c.in-Some.found.description.flags) c.in-Queue.is

pub returns-in-File : goal.returns-in-File
unfolding queue_of
returns-in-File c = λ k s content d.
    let old = with_objects k s content c.args.objects.now in
    ap (queue_behind old) (sym (c.opened.ensures.found k s content) ∙ ap found_as c.in-Some.is) ∙ ap (queue_to old c.in-Some.found.description.flags) c.in-File.is

pub returns-in-Console : goal.returns-in-Console
unfolding queue_of
returns-in-Console c = λ k s content d.
    let old = with_objects k s content c.args.objects.now in
    ap (queue_behind old) (sym (c.opened.ensures.found k s content) ∙ ap found_as c.in-Some.is) ∙ ap (queue_to old c.in-Some.found.description.flags) c.in-Console.is

pub returns-in-Null : goal.returns-in-Null
unfolding queue_of
returns-in-Null c = λ k s content d.
    let old = with_objects k s content c.args.objects.now in
    ap (queue_behind old) (sym (c.opened.ensures.found k s content) ∙ ap found_as c.in-Some.is) ∙ ap (queue_to old c.in-Some.found.description.flags) c.in-Null.is

pub returns-in-Semaphore : goal.returns-in-Semaphore
unfolding queue_of
returns-in-Semaphore c = λ k s content d.
    let old = with_objects k s content c.args.objects.now in
    ap (queue_behind old) (sym (c.opened.ensures.found k s content) ∙ ap found_as c.in-Some.is) ∙ ap (queue_to old c.in-Some.found.description.flags) c.in-Semaphore.is
