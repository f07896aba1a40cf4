use Rattle.nx_linked.proofs.Staying.{below_need}
use Rattle.nx_linked.proofs.laws.frames_fill_the_stack.Goals as goal

pub returns : goal.returns
returns c = below_need
