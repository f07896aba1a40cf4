use Rattle.std.proofs.Common.{ap, ◌∙◌}
use Rattle.nx_ksys.specs.TreeCalls.{rename_row}
use Rattle.nx_ksys.proofs.Standing.{some_same}
use Rattle.nx_env.specs.Joined.{with_variables}
use Rattle.nx_path.specs.Rows.{done}
use Rattle.nx_kernel.specs.Doing.{caller_of}
use Rattle.nx_ktables.specs.State.{state_of}
use Rattle.nx_ktables.proofs.Answering.{does_as, standing}
use Rattle.nx_ktables.proofs.tables.Tables.rename.Goals as goal

pub returns-in-Some-clause-does : goal.returns-in-Some-clause-does
returns-in-Some-clause-does c = λ content g variables e.
    let old = c.args.self.now in
    let tree = c.rename-outcome.new.self in
    let now = record old { objects = record old.objects { tree = tree } } in
    let who = caller_of c.args.caller c.args.place (with_variables g variables) in
    let same = some_same _ _ (c.in-Some.ensures ∙ e) in
    let path = c.directory.ensures.path ∙ ap (λ x. x.directory) same in
    does_as _ _ _ _ _ (standing (λ x. rename_row (state_of content old) x c.args.first.now c.args.second.now) (λ x. done (state_of content now) x c.rename-outcome.result) who _ path (c.rename-outcome.ensures.row (state_of content old) who))
    (c.done.ensures.does (state_of content now) c.args.place (with_variables g variables))
