use Rattle.nx_sound.proofs.Whole.{files_sound}
use Rattle.nx_sound.proofs.laws.well_typed_files_are_sound.Goals as goal

pub returns : goal.returns
returns c = files_sound
