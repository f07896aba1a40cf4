use Rattle.std.proofs.Common.{length}
use Rattle.nx_image.proofs.layout.+contents.Given as goal

abbrev pub decreases-contents : goal.decreases-contents
decreases-contents l = length l.sizes.now
