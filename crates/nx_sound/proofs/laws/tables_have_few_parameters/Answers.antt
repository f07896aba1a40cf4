use Rattle.nx_sound.proofs.Reading.{tables_have_few}
use Rattle.nx_sound.proofs.laws.tables_have_few_parameters.Goals as goal

pub returns : goal.returns
returns c = tables_have_few
