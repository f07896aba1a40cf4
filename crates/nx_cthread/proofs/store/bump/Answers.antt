use Rattle.std.proofs.Common.{sym, ap, ◌∙◌}
use Rattle.nx_checked.specs.declared.checked.IntOperator.{IntOperator}
use Rattle.nx_checked.specs.declared.checked.StepValue.{StepValue}
use Rattle.nx_cobjects.specs.declared.value.Value.TheVariants.{Int}
use Rattle.nx_cobjects.specs.Memory.{memory}
use Rattle.nx_cmean.specs.Items.{Bump}
use Rattle.nx_cmean.specs.Meaning.{with_values, raised, new_or_old, assigned, stored, changed}
use Rattle.nx_cthread.specs.Threads.{frame_of}
use Rattle.nx_cthread.proofs.Assigning.{bump_is, carried}
use Rattle.nx_cthread.proofs.store.bump.Goals as goal

pub returns-in-New : goal.returns-in-New
returns-in-New c =
    let own = c.args.own.now in
    let m = memory c.args.group.now own in let f = frame_of c.args.frame.now in let k = c.in-Ok.v in let rest = c.pop.new.self in let old = c.in-Some.old in
    carried c.assign.result (changed (memory c.assign.new.group own) (frame_of c.assign.new.frame)) (assigned m (with_values f rest) c.args.x k k rest) (stored m f (Bump c.args.value c.args.up c.args.s c.args.x))
    (ap (λ (z : StepValue). assigned m (with_values f rest) c.args.x k (new_or_old z k old) rest) (sym c.in-New.is)
    ∙ bump_is m f c.args.value c.args.up c.args.s c.args.x old k rest c.in-Some.ensures (ap (λ (q : IntOperator). raised m q c.args.s old (Int 1)) (sym c.stepping.ensures) ∙ sym c.raised.ensures ∙ c.in-Ok.is))
    (c.assign.ensures own)

pub returns-in-Old : goal.returns-in-Old
returns-in-Old c =
    let own = c.args.own.now in
    let m = memory c.args.group.now own in let f = frame_of c.args.frame.now in let k = c.in-Ok.v in let rest = c.pop.new.self in let old = c.in-Some.old in
    carried c.assign-in-Old.result (changed (memory c.assign-in-Old.new.group own) (frame_of c.assign-in-Old.new.frame)) (assigned m (with_values f rest) c.args.x k old rest) (stored m f (Bump c.args.value c.args.up c.args.s c.args.x))
    (ap (λ (z : StepValue). assigned m (with_values f rest) c.args.x k (new_or_old z k old) rest) (sym c.in-Old.is)
    ∙ bump_is m f c.args.value c.args.up c.args.s c.args.x old k rest c.in-Some.ensures (ap (λ (q : IntOperator). raised m q c.args.s old (Int 1)) (sym c.stepping.ensures) ∙ sym c.raised.ensures ∙ c.in-Ok.is))
    (c.assign-in-Old.ensures own)
