use Rattle.nx_shtree.proofs.Sound.{script_sound}
use Rattle.nx_shtree.proofs.grammar.a_script_that_is_read_was_there.Goals as goal

pub returns : goal.returns
returns c = λ limit ts xs t e. script_sound limit ts xs t e
