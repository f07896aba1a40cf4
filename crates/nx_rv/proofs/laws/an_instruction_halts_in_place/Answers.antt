use Rattle.nx_rv.proofs.Halts.{turn_halts}
use Rattle.nx_rv.proofs.laws.an_instruction_halts_in_place.Goals as goal

pub returns : goal.returns
returns c = turn_halts
