use Rattle.nx_operations.proofs.Operations.{operations}
use Rattle.nx_operations.proofs.laws.operations_write_their_cell.Goals as goal

pub returns : goal.returns
returns c = operations
