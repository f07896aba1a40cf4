use Rattle.nx_acted.proofs.Acts.{done}
use Rattle.nx_acted.proofs.laws.operations_on_cells_are_done.Goals as goal

pub returns : goal.returns
returns c = done
