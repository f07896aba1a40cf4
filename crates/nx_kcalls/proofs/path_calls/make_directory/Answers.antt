use Rattle.std.proofs.Common.{ℕ, List, [], ap, ◌∙◌}
use Rattle.nx_pool.specs.declared.chain.Chain.{Chain}
use Rattle.nx_kernel.specs.Doing.{caller_of}
use Rattle.nx_ktables.specs.State.{state_of, others_of}
use Rattle.nx_ktables.proofs.Answering.{does_as, standing}
use Rattle.nx_ksys.proofs.Standing.{some_same}
use Rattle.nx_env.specs.Joined.{with_variables}
use Rattle.nx_ksys.specs.TreeCalls.{mkdir_row}
use Rattle.nx_path.specs.Rows.{done}
use Rattle.nx_kcalls.proofs.path_calls.make_directory.Goals as goal

pub returns-in-Some-clause-does : goal.returns-in-Some-clause-does
returns-in-Some-clause-does c = λ content h variables e.
    let old = c.args.tables.now in
    let k = state_of content old in
    let now = state_of content (record old { objects = record old.objects { tree = c.make_directory-outcome.new.self } }) in
    let group = with_variables h variables in
    let who = caller_of c.args.caller c.args.place group in
    let same = some_same _ _ (c.in-Some.ensures ∙ e) in
    let path = c.directory.ensures.path ∙ ap (λ x. x.directory) same in
    does_as _ _ _ _ _ (standing (λ x. mkdir_row k x c.args.text.now) (λ x. done now x c.make_directory-outcome.result) who _ path (c.make_directory-outcome.ensures.row k who (c.is_full-full.ensures (others_of old) old.threads content)))
    (c.done.ensures.does now c.args.place group)

pub make_directory-outcome-requires-clause-room : goal.make_directory-outcome-requires-clause-room
make_directory-outcome-requires-clause-room c = λ e.
    let old = c.args.tables.now in
    let content : Chain → List ℕ = λ h. [] in
    c.requires.paths content (c.is_full-full.ensures (others_of old) old.threads content ∙ e)
