use Rattle.std.proofs.Common.{ap}
use Rattle.nx_objectcalls.proofs.room.move_to.Goals as goal

pub returns : goal.returns
returns c = ap (λ ds. record c.args.objects.now { descriptions = ds }) c.set.ensures
