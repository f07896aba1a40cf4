use Rattle.std.proofs.Common.{sym, ap, ◌∙◌, min, arith}
use Rattle.nx_kernel.specs.Doing.{caller_of}
use Rattle.nx_ktables.specs.State.{state_of, others_of}
use Rattle.nx_ktables.proofs.Answering.{does_as}
use Rattle.std.proofs.lemmas.List.{length-take-le}
use Rattle.nx_ksys.specs.FileCalls.{read_target}
use Rattle.nx_fs.specs.Rows.{opened_at}
use Rattle.nx_objectcalls.specs.Rows.{reads_told}
use Rattle.nx_kcalls.proofs.file_calls.read.Goals as goal

pub returns-in-Err-clause-does : goal.returns-in-Err-clause-does
returns-in-Err-clause-does g c = λ group.
    let old = c.args.tables.now in
    let content = g.B.BlockStore.content c.args.blocks.now in
    let k = state_of content old in
    let who = caller_of c.args.caller c.args.place group in
    does_as _ _ _ _ _ (c.readable.ensures.row (others_of old) old.threads content who c.args.size ∙ ap (reads_told k who (min c.args.size 4096)) c.in-Err.is)
    (c.done.ensures.does k c.args.place group)

pub returns-in-Ok-clause-does : goal.returns-in-Ok-clause-does
returns-in-Ok-clause-does g c = λ group.
    let old = c.args.tables.now in
    let content = g.B.BlockStore.content c.args.blocks.now in
    let k = state_of content old in
    let who = caller_of c.args.caller c.args.place group in
    let f = c.in-Ok.found in
    let size = length-take-le c.min-room.result c.args.buffer.now (omega (arith, c.min-room.ensures, c.requires.buffer)) ∙ c.min-room.ensures in
    does_as _ _ _ _ _ (c.readable.ensures.row (others_of old) old.threads content who c.args.size ∙ ap (reads_told k who (min c.args.size 4096)) c.in-Ok.is ∙ ap (λ n. read_target k who (opened_at f.place f.description) n f.description.target) (sym size))
    (c.read_target.ensures.does c.args.place group)
