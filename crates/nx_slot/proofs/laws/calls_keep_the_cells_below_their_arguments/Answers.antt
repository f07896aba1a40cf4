use Rattle.nx_slot.proofs.Surviving.{callers, askers}
use Rattle.nx_slot.proofs.laws.calls_keep_the_cells_below_their_arguments.Goals as goal

pub returns-clause-functions : goal.returns-clause-functions
returns-clause-functions c = callers

pub returns-clause-kernel : goal.returns-clause-kernel
returns-clause-kernel c = askers
