use Rattle.nx_lower.proofs.Kept.{lowers_programs}
use Rattle.nx_lower.proofs.laws.slot_code_keeps_its_program.Goals as goal

pub returns : goal.returns
returns c = lowers_programs
