use Rattle.nx_sound.proofs.Placed.{objects_there}
use Rattle.nx_sound.proofs.laws.objects_stand_where_code_says.Goals as goal

pub returns : goal.returns
returns c = objects_there
