use Rattle.nx_shtree.proofs.Complete.{script_complete}
use Rattle.nx_shtree.proofs.grammar.a_script_that_was_there_is_read.Goals as goal

pub returns : goal.returns
returns c = λ limit ts xs h. script_complete h
