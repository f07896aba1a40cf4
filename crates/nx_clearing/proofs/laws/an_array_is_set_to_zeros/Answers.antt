use Rattle.nx_clearing.proofs.Clearing.{cleared}
use Rattle.nx_clearing.proofs.laws.an_array_is_set_to_zeros.Goals as goal

pub returns : goal.returns
returns c = cleared
