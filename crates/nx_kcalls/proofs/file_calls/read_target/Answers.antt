use Rattle.std.proofs.Common.{ap, ◌∙◌, length}
use Rattle.nx_kernel.specs.Doing.{caller_of}
use Rattle.nx_ktables.specs.State.{state_of, others_of}
use Rattle.nx_ktables.proofs.Answering.{does_as}
use Rattle.nx_ksys.specs.FileCalls.{read_target}
use Rattle.nx_fs.specs.Rows.{opened_at}
use Rattle.nx_kcalls.proofs.Consoles.{on_console}
use Rattle.nx_kcalls.proofs.file_calls.read_target.Goals as goal

pub returns-in-File-clause-does : goal.returns-in-File-clause-does
returns-in-File-clause-does g c = λ place group.
    let content = g.B.BlockStore.content c.args.blocks.now in
    let old = c.args.tables.now in
    let f = c.args.found in
    let k = state_of content old in
    let who = caller_of c.args.caller place group in
    let now = record old { objects = c.read_file-count.new.objects } in
    does_as _ _ _ _ _ (ap (read_target k who (opened_at f.place f.description) (length c.args.into.now)) c.in-File.is ∙ c.read_file-count.ensures.row (others_of old) old.threads who)
    (c.tell_read.ensures.does (state_of content now) place group)

pub returns-in-Console-clause-does : goal.returns-in-Console-clause-does
returns-in-Console-clause-does g c = λ place group.
    let k = state_of (g.B.BlockStore.content c.args.blocks.now) c.args.tables.now in
    let f = c.args.found in
    does_as _ _ _ _ _ (ap (read_target k (caller_of c.args.caller place group) (opened_at f.place f.description) (length c.args.into.now)) c.in-Console.is)
    (on_console (g.B.BlockStore.content c.args.blocks.now) c.args.tables.now c.args.tables.now.threads c.read_console.new.terminal _ _ _ c.read_console.ensures.console (c.read_console.ensures.does k place group))

pub returns-in-Null-clause-does : goal.returns-in-Null-clause-does
returns-in-Null-clause-does g c = λ place group.
    let k = state_of (g.B.BlockStore.content c.args.blocks.now) c.args.tables.now in
    let f = c.args.found in
    does_as _ _ _ _ _ (ap (read_target k (caller_of c.args.caller place group) (opened_at f.place f.description) (length c.args.into.now)) c.in-Null.is)
    (c.done.ensures.does k place group)

pub returns-in-Queue-clause-does : goal.returns-in-Queue-clause-does
returns-in-Queue-clause-does g c = λ place group.
    let k = state_of (g.B.BlockStore.content c.args.blocks.now) c.args.tables.now in
    let f = c.args.found in
    does_as _ _ _ _ _ (ap (read_target k (caller_of c.args.caller place group) (opened_at f.place f.description) (length c.args.into.now)) c.in-Queue.is)
    (c.done-in-Queue.ensures.does k place group)

pub returns-in-Semaphore-clause-does : goal.returns-in-Semaphore-clause-does
returns-in-Semaphore-clause-does g c = λ place group.
    let k = state_of (g.B.BlockStore.content c.args.blocks.now) c.args.tables.now in
    let f = c.args.found in
    does_as _ _ _ _ _ (ap (read_target k (caller_of c.args.caller place group) (opened_at f.place f.description) (length c.args.into.now)) c.in-Semaphore.is)
    (c.done-in-Semaphore.ensures.does k place group)

pub read_file-count-requires-clause-short : goal.read_file-count-requires-clause-short
read_file-count-requires-clause-short g c = c.requires.short c.in-File.file
