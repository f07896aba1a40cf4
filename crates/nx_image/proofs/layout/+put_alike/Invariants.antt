use Rattle.std.proofs.Common.{length}
use Rattle.nx_image.proofs.layout.+put_alike.Given as goal

abbrev pub decreases-put_alike : goal.decreases-put_alike
decreases-put_alike l = length l.sizes.now
