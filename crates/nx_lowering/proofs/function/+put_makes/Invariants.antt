use Rattle.std.proofs.Common.{length}
use Rattle.nx_lowering.proofs.function.+put_makes.Given as goal

abbrev pub decreases-put_makes : goal.decreases-put_makes
decreases-put_makes l = length l.arrays.now
