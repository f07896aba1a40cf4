use Rattle.nx_env.specs.Joined.{variables_at, with_variables}
use Rattle.nx_kernel.specs.Doing.{caller_of}
use Rattle.nx_ktables.specs.State.{state_of}
use Rattle.nx_ktables.proofs.Answering.{does_as}
use Rattle.nx_ktables.proofs.tables.Tables.set_variable.Goals as goal

pub returns-clause-does : goal.returns-clause-does
returns-clause-does c = λ content g e.
    let old = c.args.self.now in
    let now = record old { environments = c.set-outcome.new.self } in
    let group = with_variables g (variables_at old.environments c.args.place) in
    does_as _ _ _ _ _ (c.set-outcome.ensures.row (state_of content old) (caller_of c.args.caller c.args.place group) old.groups g e)
    (c.done.ensures.does (state_of content now) c.args.place group)
