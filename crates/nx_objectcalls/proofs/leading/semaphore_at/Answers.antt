use Rattle.std.proofs.Common.{sym, ap, ◌∙◌}
use Rattle.nx_ksys.specs.SemaphoreCalls.{semaphore_of, semaphore_behind, semaphore_to}
use Rattle.nx_objects.specs.Tables.{with_objects}
use Rattle.nx_objects.specs.Rows.{found_as}
use Rattle.nx_objectcalls.proofs.leading.semaphore_at.Goals as goal

pub returns-in-None : goal.returns-in-None
unfolding semaphore_of
returns-in-None c = λ k s content d. ap (semaphore_behind (with_objects k s content c.args.objects.now)) (sym (c.opened.ensures.found k s content) ∙ ap found_as c.in-None.is)

pub returns-in-Queue : goal.returns-in-Queue
unfolding semaphore_of
returns-in-Queue c = λ k s content d.
    let old = with_objects k s content c.args.objects.now in
    ap (semaphore_behind old) (sym (c.opened.ensures.found k s content) ∙ ap found_as c.in-Some.is) ∙ ap (semaphore_to old) c.in-Queue.is

pub returns-in-File : goal.returns-in-File
unfolding semaphore_of
returns-in-File c = λ k s content d.
    let old = with_objects k s content c.args.objects.now in
    ap (semaphore_behind old) (sym (c.opened.ensures.found k s content) ∙ ap found_as c.in-Some.is) ∙ ap (semaphore_to old) c.in-File.is

pub returns-in-Console : goal.returns-in-Console
unfolding semaphore_of
returns-in-Console c = λ k s content d.
    let old = with_objects k s content c.args.objects.now in
    ap (semaphore_behind old) (sym (c.opened.ensures.found k s content) ∙ ap found_as c.in-Some.is) ∙ ap (semaphore_to old) c.in-Console.is

pub returns-in-Null : goal.returns-in-Null
unfolding semaphore_of
returns-in-Null c = λ k s content d.
    let old = with_objects k s content c.args.objects.now in
    ap (semaphore_behind old) (sym (c.opened.ensures.found k s content) ∙ ap found_as c.in-Some.is) ∙ ap (semaphore_to old) c.in-Null.is

pub returns-in-Semaphore : goal.returns-in-Semaphore
unfolding semaphore_of
returns-in-Semaphore c = λ k s content d.
    let old = with_objects k s content c.args.objects.now in
    ap (semaphore_behind old) (sym (c.opened.ensures.found k s content) ∙ ap found_as c.in-Some.is) ∙ ap (semaphore_to old) c.in-Semaphore.is
