use Rattle.std.proofs.Common.{sym, ◌∙◌}
use Rattle.nx_cobjects.specs.Memory.{memory}
use Rattle.nx_cmean.specs.Items.{Write}
use Rattle.nx_cmean.specs.Meaning.{with_values, assigned, stored, changed}
use Rattle.nx_cthread.specs.Threads.{frame_of}
use Rattle.nx_cthread.proofs.Assigning.{write_is, carried}
use Rattle.nx_cthread.proofs.store.write.Goals as goal

pub returns-in-Ok : goal.returns-in-Ok
returns-in-Ok c = λ own.
    let m = memory c.args.group.now own in let f = frame_of c.args.frame.now in let k = c.in-Ok.v in let rest = c.pop.new.self in
    carried c.assign.result (changed (memory c.assign.new.group own) (frame_of c.assign.new.frame)) (assigned m (with_values f rest) c.args.x k k rest) (stored m f (Write c.args.s c.args.x))
    (write_is m f c.args.s c.args.x c.in-Some.v k rest c.in-Some.ensures (sym c.kept.ensures ∙ c.in-Ok.is)) (c.assign.ensures own)
