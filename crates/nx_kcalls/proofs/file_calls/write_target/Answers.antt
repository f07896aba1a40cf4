use Rattle.std.proofs.Common.{ap, ◌∙◌}
use Rattle.nx_kernel.specs.Doing.{caller_of}
use Rattle.nx_ktables.specs.State.{state_of, others_of}
use Rattle.nx_ktables.proofs.Answering.{does_as}
use Rattle.nx_ksys.specs.FileCalls.{write_target}
use Rattle.nx_fs.specs.Rows.{opened_at}
use Rattle.nx_kcalls.proofs.Consoles.{on_console}
use Rattle.nx_kcalls.proofs.file_calls.write_target.Goals as goal

pub returns-in-File-clause-does : goal.returns-in-File-clause-does
returns-in-File-clause-does g c = λ place group.
    let store = g.B.BlockStore in
    let old = c.args.tables.now in
    let f = c.args.found in
    let k = state_of (store.content c.args.blocks.now) old in
    let who = caller_of c.args.caller place group in
    let now = record old { objects = c.write_file-count.new.objects } in
    does_as _ _ _ _ _ (ap (write_target k who (opened_at f.place f.description) c.args.bytes.now) c.in-File.is ∙ c.write_file-count.ensures.row (others_of old) old.threads who c.requires.free)
    (c.answer.ensures.does (state_of (store.content c.write_file-count.new.blocks) now) place group)

pub returns-in-Console-clause-does : goal.returns-in-Console-clause-does
returns-in-Console-clause-does g c = λ place group.
    let old = c.args.tables.now in
    let f = c.args.found in
    let k = state_of (g.B.BlockStore.content c.args.blocks.now) old in
    does_as _ _ _ _ _ (ap (write_target k (caller_of c.args.caller place group) (opened_at f.place f.description) c.args.bytes.now) c.in-Console.is)
    (on_console (g.B.BlockStore.content c.args.blocks.now) old c.write_console.new.threads c.write_console.new.terminal _ _ _ c.write_console.ensures.console (c.write_console.ensures.does k place group))

pub returns-in-Null-clause-does : goal.returns-in-Null-clause-does
returns-in-Null-clause-does g c = λ place group.
    let old = c.args.tables.now in
    let f = c.args.found in
    let k = state_of (g.B.BlockStore.content c.args.blocks.now) old in
    does_as _ _ _ _ _ (ap (write_target k (caller_of c.args.caller place group) (opened_at f.place f.description) c.args.bytes.now) c.in-Null.is)
    (c.answer-in-Null.ensures.does k place group)

pub returns-in-Queue-clause-does : goal.returns-in-Queue-clause-does
returns-in-Queue-clause-does g c = λ place group.
    let old = c.args.tables.now in
    let f = c.args.found in
    let k = state_of (g.B.BlockStore.content c.args.blocks.now) old in
    does_as _ _ _ _ _ (ap (write_target k (caller_of c.args.caller place group) (opened_at f.place f.description) c.args.bytes.now) c.in-Queue.is)
    (c.answer-in-Queue.ensures.does k place group)

pub returns-in-Semaphore-clause-does : goal.returns-in-Semaphore-clause-does
returns-in-Semaphore-clause-does g c = λ place group.
    let old = c.args.tables.now in
    let f = c.args.found in
    let k = state_of (g.B.BlockStore.content c.args.blocks.now) old in
    does_as _ _ _ _ _ (ap (write_target k (caller_of c.args.caller place group) (opened_at f.place f.description) c.args.bytes.now) c.in-Semaphore.is)
    (c.answer-in-Semaphore.ensures.does k place group)
