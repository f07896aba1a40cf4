use Rattle.nx_kernel.specs.Doing.{caller_of}
use Rattle.nx_ktables.specs.State.{state_of, others_of}
use Rattle.nx_ktables.proofs.Answering.{does_as}
use Rattle.nx_ktables.proofs.tables.Tables.dup2.Goals as goal

pub returns-clause-does : goal.returns-clause-does
returns-clause-does g c = λ group.
    let old = c.args.self.now in
    let now = record old { objects = c.dup2-new.new.self } in
    does_as _ _ _ _ _ (c.dup2-new.ensures.row (others_of old) (caller_of c.args.caller c.args.place group))
    (c.answer.ensures.does (state_of (g.B.BlockStore.content c.dup2-new.new.blocks) now) c.args.place group)
