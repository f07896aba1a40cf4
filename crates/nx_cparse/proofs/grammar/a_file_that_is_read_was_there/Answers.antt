use Rattle.nx_cparse.proofs.FileReads.{file_sound}
use Rattle.nx_cparse.proofs.grammar.a_file_that_is_read_was_there.Goals as goal

pub returns : goal.returns
returns c = λ limit ts a rest e. file_sound limit ts a rest e
