use Rattle.std.proofs.Common.{[], sym, ap, ◌∙◌}
use Rattle.nx_kernel.specs.Doing.{caller_of}
use Rattle.nx_ktables.specs.State.{state_of}
use Rattle.nx_ktables.proofs.Answering.{does_as, standing}
use Rattle.nx_ksys.proofs.Standing.{some_same}
use Rattle.nx_ksys.specs.Answers.{replied}
use Rattle.nx_ksys.specs.TreeCalls.{chdir_row}
use Rattle.nx_path.specs.Rows.{stands_in}
use Rattle.nx_env.specs.Joined.{variables_at, with_variables}
use Rattle.nx_kcalls.proofs.Entering.{entered}
use Rattle.nx_kcalls.proofs.path_calls.enter.Goals as goal

pub returns-in-Err-clause-does : goal.returns-in-Err-clause-does
returns-in-Err-clause-does c = λ content h e.
    let old = c.args.tables.now in
    let k = state_of content old in
    let vs = old.environments in
    let group = with_variables h (variables_at vs c.args.place) in
    let who = caller_of c.args.caller c.args.place group in
    let same = some_same _ _ (c.in-Some.ensures ∙ e) in
    let path = c.directory.ensures.path ∙ ap (λ x. x.directory) same in
    let row = standing (λ x. chdir_row k x c.args.text.now) (λ x. stands_in k x c.enter.result) who _ path (c.enter.ensures k who) in
    does_as _ _ _ _ _ (row ∙ ap (stands_in k who) c.in-Err.is)
    (c.done.ensures.does k c.args.place group)

pub returns-in-Ok-clause-does : goal.returns-in-Ok-clause-does
returns-in-Ok-clause-does c = λ content h e.
    let old = c.args.tables.now in
    let k = state_of content old in
    let vs = old.environments in
    let group = with_variables h (variables_at vs c.args.place) in
    let who = caller_of c.args.caller c.args.place group in
    let same = some_same _ _ (c.in-Some.ensures ∙ e) in
    let path = c.directory.ensures.path ∙ ap (λ x. x.directory) same in
    let row = standing (λ x. chdir_row k x c.args.text.now) (λ x. stands_in k x c.enter.result) who _ path (c.enter.ensures k who) in
    let groups = entered old.groups c.enter-in-Ok.new.self vs c.args.place h c.in-Ok.path.items _ e c.as_slice.ensures.value c.enter-in-Ok.ensures in
    does_as _ _ _ _ _ (row ∙ ap (stands_in k who) c.in-Ok.is ∙ (λ i. replied (record k { groups = sym groups i }) who 0 []))
    (c.done-in-Ok.ensures.does (state_of content (record old { groups = c.enter-in-Ok.new.self })) c.args.place group)
