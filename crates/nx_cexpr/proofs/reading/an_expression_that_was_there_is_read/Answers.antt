use Rattle.nx_cexpr.proofs.Complete.{expr_complete}
use Rattle.nx_cexpr.proofs.reading.an_expression_that_was_there_is_read.Goals as goal

pub returns : goal.returns
returns c = λ d ts x rest p h. expr_complete p.has p.within h
