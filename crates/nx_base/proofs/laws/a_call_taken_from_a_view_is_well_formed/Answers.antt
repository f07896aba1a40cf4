use Rattle.nx_base.proofs.WellFormed.{cooked_well}
use Rattle.nx_base.proofs.laws.a_call_taken_from_a_view_is_well_formed.Goals as goal

pub returns : goal.returns
returns c = cooked_well
