use Rattle.nx_cexpr.proofs.CompleteReads.{one_expression}
use Rattle.nx_cexpr.proofs.reading.an_expression_has_one_tree.Goals as goal

pub returns : goal.returns
returns c = λ ts a b h k r s x f y g. one_expression ts a b h k r s x f y g
