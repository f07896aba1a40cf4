use Rattle.nx_lower.proofs.Outputs.{outputs}
use Rattle.nx_lower.proofs.laws.outputs_are_put_alike.Goals as goal

pub returns : goal.returns
returns c = outputs
