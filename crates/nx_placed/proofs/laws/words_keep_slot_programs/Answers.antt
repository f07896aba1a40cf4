use Rattle.nx_placed.proofs.Kept.{keeps_slot_program}
use Rattle.nx_placed.proofs.laws.words_keep_slot_programs.Goals as goal

pub returns : goal.returns
returns c = keeps_slot_program
