use Rattle.nx_slot.proofs.Below.{below_stays}
use Rattle.nx_slot.proofs.laws.a_step_changes_the_open_call_alone.Goals as goal

pub returns : goal.returns
returns c = below_stays
