use Rattle.std.proofs.Common.{sym, ap, ◌∙◌}
use Rattle.nx_kernel.specs.Doing.{caller_of}
use Rattle.nx_ktables.specs.State.{state_of}
use Rattle.nx_ktables.proofs.Answering.{does_as}
use Rattle.nx_ksys.proofs.Standing.{some_same}
use Rattle.nx_ksys.specs.Answers.{text_out}
use Rattle.nx_ksys.specs.Paths.{shown}
use Rattle.nx_ksys.specs.TreeCalls.{getcwd_row}
use Rattle.nx_env.specs.Joined.{with_variables}
use Rattle.nx_kcalls.proofs.path_calls.tell_directory.Goals as goal

pub returns-in-Some-clause-does : goal.returns-in-Some-clause-does
unfolding getcwd_row
returns-in-Some-clause-does c = λ content h variables e.
    let old = c.args.tables.now in
    let k = state_of content old in
    let group = with_variables h variables in
    let who = caller_of c.args.caller c.args.place group in
    let same = some_same _ _ (c.in-Some.ensures ∙ e) in
    let path = c.directory.ensures.path ∙ ap (λ x. x.directory) same in
    does_as _ _ _ _ _ (ap (text_out k who c.args.size) (sym (c.shown-text.ensures ∙ ap shown path)))
    (c.tell_text.ensures.does k c.args.place group)
