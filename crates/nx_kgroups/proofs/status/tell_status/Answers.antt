use Rattle.std.proofs.Common.{◌≡◌, refl, sym, ap, ◌∙◌, ◌++◌, ◌∷◌}
use Rattle.std.specs.Prelude.{if◌then◌else◌, slice_get, decimal}
use Rattle.nx_base.specs.declared.errno.Errno.TheVariants.{Einval}
use Rattle.nx_ksys.specs.Threads.{thread_of}
use Rattle.nx_ksys.specs.Answers.{failed, text_out}
use Rattle.nx_ksys.specs.GroupCalls.{ps_row, ps_out, nth_group, priority_of, name_of_program, status_of}
use Rattle.nx_kernel.specs.Doing.{caller_of}
use Rattle.nx_ktables.specs.State.{state_of}
use Rattle.nx_ktables.proofs.Answering.{does_as}
use Rattle.nx_kgroups.proofs.Lines.{at_least, below}
use Rattle.nx_kgroups.proofs.Nth.{nth_told}
use Rattle.nx_kgroups.proofs.status.tell_status.Goals as goal

pub returns-then-index-ge2147483648-clause-does : goal.returns-then-index-ge2147483648-clause-does
unfolding ps_row
returns-then-index-ge2147483648-clause-does c = λ content place group.
    let k = state_of content c.args.tables.now in
    let who = caller_of c.args.caller place group in
    does_as _ _ _ _ _ (ap (λ b. if b then failed k who Einval else ps_out k who c.args.size (nth_group k.groups c.args.index)) (at_least _ _ c.if-index-ge2147483648.true))
    (c.done.ensures.does k place group)

pub returns-in-None-clause-does : goal.returns-in-None-clause-does
unfolding ps_row
returns-in-None-clause-does c = λ content place group.
    let old = c.args.tables.now in
    let k = state_of content old in
    let who = caller_of c.args.caller place group in
    does_as _ _ _ _ _ (ap (λ b. if b then failed k who Einval else ps_out k who c.args.size (nth_group k.groups c.args.index)) (below _ _ c.if-index-ge2147483648.false)
    ∙ nth_told k who c.args.size c.args.index old.groups old.environments
    ∙ ap (ps_out k who c.args.size) (sym c.in-None.ensures))
    (record { state = refl; replies = c.tell_word.ensures.told; effect = refl })

pub returns-in-Some-clause-does : goal.returns-in-Some-clause-does
unfolding ps_row
returns-in-Some-clause-does c = λ content place group.
    let old = c.args.tables.now in
    let k = state_of content old in
    let who = caller_of c.args.caller place group in
    let priority = c.priority_of.ensures ∙ ap priority_of (c.thread-thread.ensures ∙ ap (thread_of old.threads.threads) c.number.ensures) in
    let name = c.name_of-name.ensures.name ∙ (λ i. name_of_program (c.as_slice.ensures.value i) (slice_get (c.as_slice.ensures.value i) (c.program.ensures i))) in
    let line : (decimal c.number-in-Some.result ++ 32 ∷ decimal c.priority_of.result) ++ 32 ∷ c.name_of-name.result.now ≡ status_of k c.in-Some.group.now
    = λ i. (decimal (c.number-in-Some.ensures i) ++ 32 ∷ decimal (priority i)) ++ 32 ∷ name i in
    does_as _ _ _ _ _ (ap (λ b. if b then failed k who Einval else ps_out k who c.args.size (nth_group k.groups c.args.index)) (below _ _ c.if-index-ge2147483648.false)
    ∙ nth_told k who c.args.size c.args.index old.groups old.environments
    ∙ ap (ps_out k who c.args.size) (sym c.in-Some.ensures)
    ∙ ap (text_out k who c.args.size) (sym (c.as_slice-in-Some.ensures.value ∙ c.line_of-line.ensures ∙ line)))
    (c.tell_text.ensures.does k place group)
