use Rattle.std.proofs.Common.{ap, ◌∙◌}
use Rattle.nx_kernel.specs.Doing.{caller_of}
use Rattle.nx_ktables.specs.State.{state_of}
use Rattle.nx_ktables.proofs.Answering.{does_as, standing}
use Rattle.nx_ksys.proofs.Standing.{some_same}
use Rattle.nx_env.specs.Joined.{with_variables}
use Rattle.nx_ksys.specs.TreeCalls.{kind_row}
use Rattle.nx_path.specs.Rows.{answered}
use Rattle.nx_kcalls.proofs.path_calls.kind.Goals as goal

pub returns-in-Some-clause-does : goal.returns-in-Some-clause-does
returns-in-Some-clause-does c = λ content h variables e.
    let old = c.args.tables.now in
    let k = state_of content old in
    let now = state_of content (old) in
    let group = with_variables h variables in
    let who = caller_of c.args.caller c.args.place group in
    let same = some_same _ _ (c.in-Some.ensures ∙ e) in
    let path = c.directory.ensures.path ∙ ap (λ x. x.directory) same in
    does_as _ _ _ _ _ (standing (λ x. kind_row k x c.args.text.now) (λ x. answered now x c.kind-number.result) who _ path (c.kind-number.ensures k who))
    (c.answer.ensures.does now c.args.place group)
