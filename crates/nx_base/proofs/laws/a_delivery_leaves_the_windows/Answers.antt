use Rattle.nx_base.proofs.Shapes.{deliver_shape}
use Rattle.nx_base.proofs.laws.a_delivery_leaves_the_windows.Goals as goal

pub returns : goal.returns
returns c = deliver_shape
