use Rattle.nx_framed.proofs.Framed.{frames_hold}
use Rattle.nx_framed.proofs.laws.frames_hold_their_cells.Goals as goal

pub returns : goal.returns
returns c = frames_hold
