use Rattle.nx_sound.proofs.Whole.{files_kept}
use Rattle.nx_sound.proofs.laws.well_typed_files_are_kept.Goals as goal

pub returns : goal.returns
returns c = files_kept
