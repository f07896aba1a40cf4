use Rattle.std.proofs.Common.{length}
use Rattle.nx_lowering.proofs.function.+put_initials.Given as goal

abbrev pub decreases-put_initials : goal.decreases-put_initials
decreases-put_initials l = length l.es.now
