use Rattle.std.proofs.Common.{sym, ◌∙◌}
use Rattle.nx_kernel.specs.Doing.{caller_of}
use Rattle.nx_ktables.specs.State.{state_of}
use Rattle.nx_ktables.proofs.Answering.{does_as}
use Rattle.nx_fs.specs.Rows.{opened_at}
use Rattle.nx_kcalls.proofs.Writing.{none_written, some_written}
use Rattle.nx_kcalls.proofs.file_calls.write_found.Goals as goal

pub returns-then-is_empty-clause-does : goal.returns-then-is_empty-clause-does
returns-then-is_empty-clause-does g c = λ place group.
    let f = c.args.found in
    let k = state_of (g.B.BlockStore.content c.args.blocks.now) c.args.tables.now in
    does_as _ _ _ _ _ (none_written k (caller_of c.args.caller place group) (opened_at f.place f.description) c.args.bytes.now (sym c.is_empty.ensures ∙ c.if-is_empty.true))
    (c.done.ensures.does k place group)

pub returns-clause-does : goal.returns-clause-does
returns-clause-does g c = λ place group.
    let f = c.args.found in
    let k = state_of (g.B.BlockStore.content c.args.blocks.now) c.args.tables.now in
    does_as _ _ _ _ _ (some_written k (caller_of c.args.caller place group) (opened_at f.place f.description) c.args.bytes.now (sym c.is_empty.ensures ∙ c.if-is_empty.false))
    (c.write_target.ensures.does place group)
