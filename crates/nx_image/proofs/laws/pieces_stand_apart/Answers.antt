use Rattle.nx_image.proofs.Standing.{pieces_apart}
use Rattle.nx_image.proofs.laws.pieces_stand_apart.Goals as goal

pub returns : goal.returns
returns c = pieces_apart
