use Rattle.nx_frames.proofs.Owners.{no_byte}
use Rattle.nx_frames.proofs.laws.frames_share_no_byte.Goals as goal

pub returns : goal.returns
returns c = no_byte
