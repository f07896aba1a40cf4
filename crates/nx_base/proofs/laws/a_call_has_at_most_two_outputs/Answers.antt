use Rattle.nx_base.proofs.Outputs.{two_outputs, nothing_fits}
use Rattle.nx_base.proofs.laws.a_call_has_at_most_two_outputs.Goals as goal

pub returns-clause-two : goal.returns-clause-two
returns-clause-two c = two_outputs

pub returns-clause-none : goal.returns-clause-none
returns-clause-none c = nothing_fits
