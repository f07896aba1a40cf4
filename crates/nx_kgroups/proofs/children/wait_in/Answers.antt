use Rattle.std.proofs.Common.{sym, ap, ◌∙◌}
use Rattle.std.specs.List.{find}
use Rattle.nx_ksys.specs.declared.thread.Wait.TheVariants as wait
use Rattle.nx_ksys.specs.Ends.{has_child, has_any_child, is_code, is_any_code}
use Rattle.nx_ksys.specs.GroupCalls.{wait_child}
use Rattle.nx_kernel.specs.Doing.{caller_of}
use Rattle.nx_ktables.specs.State.{state_of}
use Rattle.nx_ktables.proofs.Answering.{does_as}
use Rattle.nx_kgroups.proofs.Waited.{wrong_row, any_row, one_row}
use Rattle.nx_kgroups.proofs.children.wait_in.Goals as goal

pub returns-then-is_wrong-clause-does : goal.returns-then-is_wrong-clause-does
returns-then-is_wrong-clause-does c = λ content place group e.
    let k = state_of content c.args.tables.now in
    let who = caller_of c.args.caller place group in
    does_as _ _ _ _ _ (wrong_row k who c.args.pid c.args.option _ c.is_wrong.ensures c.if-is_wrong.true)
    (c.done.ensures.does k place group)

pub returns-then-pid-eq-ANY_CHILD-clause-does : goal.returns-then-pid-eq-ANY_CHILD-clause-does
returns-then-pid-eq-ANY_CHILD-clause-does c = λ content place group e.
    let k = state_of content c.args.tables.now in
    let who = caller_of c.args.caller place group in
    let there = ap (has_any_child k.groups k.codes) e ∙ sym c.has_any_child-is_there.ensures in
    let code = ap (λ n. find (is_any_code n) k.codes) e ∙ sym (c.copied-code.ensures ∙ c.find_any.ensures) in
    does_as _ _ _ _ _ (any_row k who c.args.pid c.args.option _ c.is_wrong.ensures c.if-is_wrong.false c.if-pid-eq-ANY_CHILD.true ∙ (λ i. wait_child k who wait.AnyChild c.args.option (there i) (code i)))
    (c.wait_known.ensures.does content place group)

pub returns-clause-does : goal.returns-clause-does
returns-clause-does c = λ content place group e.
    let k = state_of content c.args.tables.now in
    let who = caller_of c.args.caller place group in
    let there = ap (λ n. has_child k.groups k.codes n c.args.pid) e ∙ sym c.has_child-is_there.ensures in
    let code = ap (λ n. find (is_code n c.args.pid) k.codes) e ∙ sym (c.copied-code-2.ensures ∙ c.find.ensures) in
    does_as _ _ _ _ _ (one_row k who c.args.pid c.args.option _ c.is_wrong.ensures c.if-is_wrong.false c.if-pid-eq-ANY_CHILD.false ∙ (λ i. wait_child k who (wait.Child c.args.pid) c.args.option (there i) (code i)))
    (c.wait_known-2.ensures.does content place group)
