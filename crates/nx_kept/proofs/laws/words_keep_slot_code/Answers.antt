use Rattle.nx_kept.proofs.Whole.{keeps_program}
use Rattle.nx_kept.proofs.laws.words_keep_slot_code.Goals as goal

pub returns : goal.returns
returns c = keeps_program
