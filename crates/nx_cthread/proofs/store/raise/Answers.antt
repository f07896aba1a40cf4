use Rattle.std.proofs.Common.{List, ◌∷◌, sym, ap, ◌∙◌}
use Rattle.nx_cobjects.specs.declared.value.Value.{Value}
use Rattle.nx_cobjects.specs.Memory.{memory}
use Rattle.nx_cmean.specs.Items.{Raise}
use Rattle.nx_cmean.specs.Meaning.{with_values, assigned, stored, changed}
use Rattle.nx_cthread.specs.Threads.{frame_of}
use Rattle.nx_cthread.proofs.Assigning.{raise_is, carried}
use Rattle.nx_cthread.proofs.store.raise.Goals as goal

pub returns-in-Ok : goal.returns-in-Ok
returns-in-Ok c =
    let own = c.args.own.now in
    let m = memory c.args.group.now own in let f = frame_of c.args.frame.now in let k = c.in-Ok.v in let rest = c.pop-in-Some.new.self in
    carried c.assign.result (changed (memory c.assign.new.group own) (frame_of c.assign.new.frame)) (assigned m (with_values f rest) c.args.x k k rest) (stored m f (Raise c.args.op c.args.s c.args.x))
    (raise_is m f c.args.op c.args.s c.args.x c.in-Some-pop.v c.in-Some.e k rest (c.in-Some.ensures ∙ ap (λ (l : List Value). c.in-Some.e ∷ l) c.in-Some-pop.ensures) (sym c.raised.ensures ∙ c.in-Ok.is)) (c.assign.ensures own)
