use Rattle.std.proofs.Common.{ap, ◌∙◌}
use Rattle.nx_kernel.specs.Doing.{caller_of}
use Rattle.nx_ktables.specs.State.{state_of, others_of}
use Rattle.nx_ktables.proofs.Answering.{does_as, standing}
use Rattle.nx_ksys.proofs.Standing.{some_same}
use Rattle.nx_env.specs.Joined.{with_variables}
use Rattle.nx_ksys.specs.TreeCalls.{unlink_row}
use Rattle.nx_path.specs.Rows.{done}
use Rattle.nx_kcalls.proofs.path_calls.unlink.Goals as goal

pub returns-in-Some-clause-does : goal.returns-in-Some-clause-does
returns-in-Some-clause-does g c = λ h variables e.
    let store = g.B.BlockStore in
    let old = c.args.tables.now in
    let k = state_of (store.content c.args.blocks.now) old in
    let now = state_of (store.content c.unlink-outcome.new.blocks) (record old { objects = c.unlink-outcome.new.objects }) in
    let group = with_variables h variables in
    let who = caller_of c.args.caller c.args.place group in
    let same = some_same _ _ (c.in-Some.ensures ∙ e) in
    let path = c.directory.ensures.path ∙ ap (λ x. x.directory) same in
    does_as _ _ _ _ _ (standing (λ x. unlink_row k x c.args.text.now) (λ x. done now x c.unlink-outcome.result) who _ path (c.unlink-outcome.ensures.row (others_of old) who))
    (c.done.ensures.does now c.args.place group)
