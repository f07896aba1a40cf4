use Rattle.std.proofs.Common.{length}
use Rattle.nx_image.proofs.layout.+texts.Given as goal

abbrev pub decreases-texts : goal.decreases-texts
decreases-texts l = length l.sizes.now
