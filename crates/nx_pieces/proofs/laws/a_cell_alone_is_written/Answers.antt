use Rattle.nx_pieces.proofs.Writes.{put_cell}
use Rattle.nx_pieces.proofs.laws.a_cell_alone_is_written.Goals as goal

pub returns : goal.returns
returns c = put_cell
