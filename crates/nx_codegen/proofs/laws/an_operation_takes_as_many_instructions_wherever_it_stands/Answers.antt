use Rattle.nx_codegen.proofs.Lengths.{same_length}
use Rattle.nx_codegen.proofs.laws.an_operation_takes_as_many_instructions_wherever_it_stands.Goals as goal

pub returns : goal.returns
returns c = same_length
