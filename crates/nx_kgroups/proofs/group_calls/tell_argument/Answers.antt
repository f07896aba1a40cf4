use Rattle.std.proofs.Common.{sym, ap, ◌∙◌}
use Rattle.nx_ksys.proofs.Standing.{some_same}
use Rattle.nx_ktables.specs.State.{state_of}
use Rattle.nx_ktables.proofs.Answering.{does_as}
use Rattle.nx_kgroups.specs.Outcomes.{calls_at}
use Rattle.std.specs.Prelude.{slice_get, option_map}
use Rattle.nx_ksys.specs.GroupCalls.{arg_row, arg_out}
use Rattle.nx_kgroups.proofs.group_calls.tell_argument.Goals as goal

pub returns-in-None-argument-clause-does : goal.returns-in-None-argument-clause-does
unfolding arg_row
returns-in-None-argument-clause-does c = λ content h e.
    let old = c.args.tables.now in
    let k = state_of content old in
    let who = calls_at old c.args.caller c.args.place h in
    let same = some_same _ _ (c.in-Some.ensures ∙ e) in
    let found = ap (λ x. slice_get x.arguments c.args.index) (sym same) ∙ sym c.argument.ensures ∙ ap (option_map (λ r. r.now)) c.in-None-argument.is in
    does_as _ _ _ _ _ (ap (arg_out k who c.args.size) found)
    (c.done.ensures.does k c.args.place who.group)

pub returns-in-Some-argument-clause-does : goal.returns-in-Some-argument-clause-does
unfolding arg_row
returns-in-Some-argument-clause-does c = λ content h e.
    let old = c.args.tables.now in
    let k = state_of content old in
    let who = calls_at old c.args.caller c.args.place h in
    let same = some_same _ _ (c.in-Some.ensures ∙ e) in
    let found = ap (λ x. slice_get x.arguments c.args.index) (sym same) ∙ sym c.argument.ensures ∙ ap (option_map (λ r. r.now)) c.in-Some-argument.is in
    does_as _ _ _ _ _ (ap (arg_out k who c.args.size) found)
    (c.tell_text.ensures.does k c.args.place who.group)
