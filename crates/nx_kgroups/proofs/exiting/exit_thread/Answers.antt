use Rattle.std.proofs.Common.{◌≡◌, refl, sym, ap, ◌∙◌}
use Rattle.nx_ksys.proofs.Standing.{some_same}
use Rattle.nx_ktables.specs.State.{state_of}
use Rattle.nx_kgroups.specs.Outcomes.{calls_at}
use Rattle.nx_kgroups.proofs.Waited.{leaves_as, main_row, other_row}
use Rattle.nx_kgroups.proofs.exiting.exit_thread.Goals as goal

pub returns-then-caller-number-clause-leaves : goal.returns-then-caller-number-clause-leaves
returns-then-caller-number-clause-leaves g c = λ h e.
    let old = c.args.tables.now in
    let k = state_of (g.B.BlockStore.content c.args.blocks.now) old in
    let who = calls_at old c.args.caller c.args.place h in
    let number : c.number-number.result ≡ h.number = c.number-number.ensures ∙ ap (λ x. x.number) (some_same _ _ (c.in-Some.ensures ∙ e)) in
    leaves_as _ _ _ _ _ _ (main_row k who c.args.value (c.if-caller-number.true ∙ number)) (c.exit.ensures.leaves c.args.caller h e)

pub returns-else-caller-number-clause-leaves : goal.returns-else-caller-number-clause-leaves
returns-else-caller-number-clause-leaves g c = λ h e.
    let old = c.args.tables.now in
    let content = g.B.BlockStore.content c.args.blocks.now in
    let who = calls_at old c.args.caller c.args.place h in
    let number : c.number-number.result ≡ h.number = c.number-number.ensures ∙ ap (λ x. x.number) (some_same _ _ (c.in-Some.ensures ∙ e)) in
    let told = c.end_thread.ensures.told content c.args.place who.group (sym number) in
    leaves_as _ _ _ _ _ _ (other_row (state_of content old) who c.args.value (λ n. c.if-caller-number.false (n ∙ sym number)))
    (record { state = told.state; replies = told.replies; effect = refl })
