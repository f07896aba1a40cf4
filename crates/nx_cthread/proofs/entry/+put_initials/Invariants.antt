use Rattle.std.proofs.Common.{length}
use Rattle.nx_cthread.proofs.entry.+put_initials.Given as goal

abbrev pub decreases-put_initials : goal.decreases-put_initials
decreases-put_initials l = length l.initials.now
