use Rattle.std.proofs.Common.{sym, ap, ◌∙◌}
use Rattle.nx_ksys.specs.FileCalls.{lseek_row, seek_opened, seek_target}
use Rattle.nx_fs.specs.Rows.{opened_at}
use Rattle.nx_objects.specs.Tables.{with_objects}
use Rattle.nx_objects.specs.Rows.{at_place, found_as}
use Rattle.nx_objectcalls.proofs.file_calls.seek.Goals as goal

pub returns-in-None-clause-row : goal.returns-in-None-clause-row
unfolding lseek_row
returns-in-None-clause-row c = λ k s content d sized.
    let a = c.args in
    let old = with_objects k s content a.objects.now in
    ap (seek_opened old (at_place d a.group) a.word a.whence) (sym (c.opened.ensures.found k s content) ∙ ap found_as c.in-None.is)

pub returns-in-File-clause-row : goal.returns-in-File-clause-row
unfolding lseek_row
returns-in-File-clause-row c = λ k s content d sized.
    let a = c.args in
    let f = c.in-Some.found in
    let old = with_objects k s content a.objects.now in
    let who = at_place d a.group in
    ap (seek_opened old who a.word a.whence) (sym (c.opened.ensures.found k s content) ∙ ap found_as c.in-Some.is)
    ∙ ap (seek_target old who (opened_at f.place f.description) a.word a.whence) c.in-File.is
    ∙ c.seek_file.ensures.row k s content who sized

pub returns-in-Console-clause-row : goal.returns-in-Console-clause-row
unfolding lseek_row
returns-in-Console-clause-row c = λ k s content d sized.
    let a = c.args in
    let f = c.in-Some.found in
    let old = with_objects k s content a.objects.now in
    let who = at_place d a.group in
    ap (seek_opened old who a.word a.whence) (sym (c.opened.ensures.found k s content) ∙ ap found_as c.in-Some.is)
    ∙ ap (seek_target old who (opened_at f.place f.description) a.word a.whence) c.in-Console.is

pub returns-in-Null-clause-row : goal.returns-in-Null-clause-row
unfolding lseek_row
returns-in-Null-clause-row c = λ k s content d sized.
    let a = c.args in
    let f = c.in-Some.found in
    let old = with_objects k s content a.objects.now in
    let who = at_place d a.group in
    ap (seek_opened old who a.word a.whence) (sym (c.opened.ensures.found k s content) ∙ ap found_as c.in-Some.is)
    ∙ ap (seek_target old who (opened_at f.place f.description) a.word a.whence) c.in-Null.is

pub returns-in-Queue-clause-row : goal.returns-in-Queue-clause-row
unfolding lseek_row
returns-in-Queue-clause-row c = λ k s content d sized.
    let a = c.args in
    let f = c.in-Some.found in
    let old = with_objects k s content a.objects.now in
    let who = at_place d a.group in
    ap (seek_opened old who a.word a.whence) (sym (c.opened.ensures.found k s content) ∙ ap found_as c.in-Some.is)
    ∙ ap (seek_target old who (opened_at f.place f.description) a.word a.whence) c.in-Queue.is

pub returns-in-Semaphore-clause-row : goal.returns-in-Semaphore-clause-row
unfolding lseek_row
returns-in-Semaphore-clause-row c = λ k s content d sized.
    let a = c.args in
    let f = c.in-Some.found in
    let old = with_objects k s content a.objects.now in
    let who = at_place d a.group in
    ap (seek_opened old who a.word a.whence) (sym (c.opened.ensures.found k s content) ∙ ap found_as c.in-Some.is)
    ∙ ap (seek_target old who (opened_at f.place f.description) a.word a.whence) c.in-Semaphore.is
