use Rattle.nx_slot.proofs.Demands.{faults}
use Rattle.nx_slot.proofs.laws.an_operation_fails_by_its_first_demand.Goals as goal

pub returns : goal.returns
returns c = faults
