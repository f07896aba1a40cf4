use Rattle.std.proofs.Common.{length}
use Rattle.nx_lowerexpr.proofs.variables.+put_params.Given as goal

abbrev pub decreases-put_params : goal.decreases-put_params
decreases-put_params l = length l.params.now
