use Rattle.std.proofs.Common.{length}
use Rattle.nx_cthread.proofs.entry.+put_arrays.Given as goal

abbrev pub decreases-put_arrays : goal.decreases-put_arrays
decreases-put_arrays l = length l.arrays.now
