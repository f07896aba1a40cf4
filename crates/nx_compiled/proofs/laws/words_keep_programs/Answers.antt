use Rattle.nx_compiled.proofs.Composed.{words_keep}
use Rattle.nx_compiled.proofs.laws.words_keep_programs.Goals as goal

pub returns : goal.returns
returns c = words_keep
