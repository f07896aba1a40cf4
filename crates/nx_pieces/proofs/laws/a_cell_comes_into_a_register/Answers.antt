use Rattle.nx_pieces.proofs.Writes.{reads}
use Rattle.nx_pieces.proofs.laws.a_cell_comes_into_a_register.Goals as goal

pub returns : goal.returns
returns c = reads
