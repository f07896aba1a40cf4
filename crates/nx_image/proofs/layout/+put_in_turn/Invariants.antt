use Rattle.std.proofs.Common.{length}
use Rattle.nx_image.proofs.layout.+put_in_turn.Given as goal

abbrev pub decreases-put_in_turn : goal.decreases-put_in_turn
decreases-put_in_turn l = length l.sizes.now
