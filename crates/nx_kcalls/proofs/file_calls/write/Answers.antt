use Rattle.std.proofs.Common.{ap, ◌∙◌}
use Rattle.nx_kernel.specs.Doing.{caller_of}
use Rattle.nx_ktables.specs.State.{state_of, others_of}
use Rattle.nx_ktables.proofs.Answering.{does_as}
use Rattle.nx_objectcalls.specs.Rows.{writes_told}
use Rattle.nx_kcalls.proofs.file_calls.write.Goals as goal

pub returns-in-Err-clause-does : goal.returns-in-Err-clause-does
returns-in-Err-clause-does g c = λ group.
    let old = c.args.tables.now in
    let content = g.B.BlockStore.content c.args.blocks.now in
    let k = state_of content old in
    let who = caller_of c.args.caller c.args.place group in
    does_as _ _ _ _ _ (c.writable.ensures.row (others_of old) old.threads content who c.args.bytes.now ∙ ap (writes_told k who c.args.bytes.now) c.in-Err.is)
    (c.done.ensures.does k c.args.place group)

pub returns-in-Ok-clause-does : goal.returns-in-Ok-clause-does
returns-in-Ok-clause-does g c = λ group.
    let old = c.args.tables.now in
    let content = g.B.BlockStore.content c.args.blocks.now in
    let k = state_of content old in
    let who = caller_of c.args.caller c.args.place group in
    does_as _ _ _ _ _ (c.writable.ensures.row (others_of old) old.threads content who c.args.bytes.now ∙ ap (writes_told k who c.args.bytes.now) c.in-Ok.is)
    (c.write_found.ensures.does c.args.place group)
