use Rattle.nx_top.proofs.first_path.Spellings.{one_reading}
use Rattle.nx_top.proofs.first.program.one_program.Goals as goal

pub returns : goal.returns
returns c = one_reading
