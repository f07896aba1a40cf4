use Rattle.std.proofs.Common.{◌+◌, ◌*◌}
use Rattle.nx_cblock.proofs.statement.+fn-statement-begun+statement.Given as goal

abbrev pub decreases-begun : goal.decreases-begun
decreases-begun g l = 2 * l.lower + 1

abbrev pub decreases-statement : goal.decreases-statement
decreases-statement g l = 2 * l.depth
