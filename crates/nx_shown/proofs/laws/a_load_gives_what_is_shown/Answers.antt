use Rattle.nx_shown.proofs.Accesses.{loads}
use Rattle.nx_shown.proofs.laws.a_load_gives_what_is_shown.Goals as goal

pub returns : goal.returns
returns c = loads
