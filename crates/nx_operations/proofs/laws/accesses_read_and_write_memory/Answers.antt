use Rattle.nx_operations.proofs.Accesses.{accesses}
use Rattle.nx_operations.proofs.laws.accesses_read_and_write_memory.Goals as goal

pub returns : goal.returns
returns c = accesses
