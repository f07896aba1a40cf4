use Rattle.nx_stored.proofs.Stored.{done}
use Rattle.nx_stored.proofs.laws.operations_on_objects_are_done.Goals as goal

pub returns : goal.returns
returns c = done
