use Rattle.std.proofs.Common.{sym, ◌∙◌}
use Rattle.nx_ipc.proofs.Rows.{opens_at}
use Rattle.nx_ipc.proofs.opening.opening_path.Goals as goal

pub returns-else-not-are_flags : goal.returns-else-not-are_flags
returns-else-not-are_flags c = λ k d limit size. opens_at k d c.args.name.now c.args.flags limit size c.in-Some.path.items c.in-Some.ensures.some.0 (sym c.are_flags.ensures ∙ c.if-not-are_flags.false) c.in-Some.ensures.some.1
