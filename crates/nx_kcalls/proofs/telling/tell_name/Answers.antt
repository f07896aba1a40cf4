use Rattle.std.proofs.Common.{sym, ap, ◌∙◌}
use Rattle.std.specs.Prelude.{Ok}
use Rattle.nx_ksys.specs.Answers.{text_out}
use Rattle.nx_kernel.specs.Doing.{caller_of}
use Rattle.nx_kernel.specs.Waking.{scheduled}
use Rattle.nx_path.specs.Rows.{name_told}
use Rattle.nx_ktables.proofs.Answering.{does_as}
use Rattle.nx_kcalls.proofs.telling.tell_name.Goals as goal

pub returns-in-Some-clause-does : goal.returns-in-Some-clause-does
returns-in-Some-clause-does c = λ k place group.
    let now = scheduled k c.args.threads.now in
    let who = caller_of c.args.caller place group in
    does_as _ _ _ _ _ (ap (name_told now who c.args.size) (c.in-Ok.is ∙ ap Ok c.in-Some.is) ∙ ap (text_out now who c.args.size) (sym c.as_slice.ensures.value))
    (c.tell_text.ensures.does k place group)
