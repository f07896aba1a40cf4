use Rattle.nx_cexpr.proofs.Sound.{expr_sound}
use Rattle.nx_cexpr.proofs.reading.an_expression_that_is_read_was_there.Goals as goal

pub returns : goal.returns
returns c = λ d ts x rest h. expr_sound d ts x rest h
