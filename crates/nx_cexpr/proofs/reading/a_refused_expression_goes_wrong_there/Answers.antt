use Rattle.nx_cexpr.proofs.CompleteReads.{expr_reads, wrong_there}
use Rattle.nx_cexpr.proofs.reading.a_refused_expression_goes_wrong_there.Goals as goal

pub returns : goal.returns
returns c = wrong_there (λ limit ts why token more e. c.fault_is_first.ensures expr_reads limit ts why token more e)
