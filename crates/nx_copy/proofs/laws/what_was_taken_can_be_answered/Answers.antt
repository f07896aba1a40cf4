use Rattle.nx_copy.proofs.Outputs.{cooked_good, outputs_stay}
use Rattle.nx_copy.proofs.laws.what_was_taken_can_be_answered.Goals as goal

pub returns-clause-taken : goal.returns-clause-taken
returns-clause-taken c = cooked_good

pub returns-clause-stays : goal.returns-clause-stays
returns-clause-stays c = outputs_stay
