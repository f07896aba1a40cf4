use Rattle.std.proofs.Common.{length}
use Rattle.nx_image.proofs.layout.+most_frames.Given as goal

abbrev pub decreases-most_frames : goal.decreases-most_frames
decreases-most_frames l = length l.sizes.now
