use Rattle.nx_cooked.proofs.Cooking.{taken}
use Rattle.nx_cooked.proofs.laws.inputs_are_taken_from_objects.Goals as goal

pub returns : goal.returns
returns c = taken
