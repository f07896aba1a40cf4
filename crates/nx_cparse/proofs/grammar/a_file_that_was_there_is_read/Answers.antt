use Rattle.nx_cparse.proofs.FileReads.{file_complete}
use Rattle.nx_cparse.proofs.grammar.a_file_that_was_there_is_read.Goals as goal

pub returns : goal.returns
returns c = λ limit ts a h. file_complete limit ts a h
