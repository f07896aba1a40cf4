use Rattle.nx_codegen.proofs.Filling.{filled_in}
use Rattle.nx_codegen.proofs.laws.refs_filled_in_give_the_instructions.Goals as goal

pub returns : goal.returns
returns c = filled_in
