use Rattle.nx_kept.proofs.Steps.{steps_done}
use Rattle.nx_kept.proofs.laws.each_step_is_done.Goals as goal

pub returns : goal.returns
returns c = steps_done
