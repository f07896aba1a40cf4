use Rattle.std.proofs.Common.{◌+◌, ◌*◌}
use Rattle.nx_cwhole.proofs.whole.+fn-read-level+read.Given as goal

abbrev pub decreases-level : goal.decreases-level
decreases-level l = 2 * l.lower + 1

abbrev pub decreases-read : goal.decreases-read
decreases-read l = 2 * l.depth
