use Rattle.nx_top.proofs.first_path.KeepsProgram.{keeps}
use Rattle.nx_top.proofs.first.laws.words_keep_the_program.Goals as goal

pub returns : goal.returns
returns c = keeps
