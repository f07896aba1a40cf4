use Rattle.std.proofs.Common.{length}
use Rattle.nx_shstep.proofs.texts.+append_spaced.Given as goal

abbrev pub decreases-append_spaced : goal.decreases-append_spaced
decreases-append_spaced l = length l.words.now
