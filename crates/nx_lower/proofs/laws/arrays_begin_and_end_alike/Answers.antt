use Rattle.nx_lower.proofs.Objects.{arrays, ends}
use Rattle.nx_lower.proofs.laws.arrays_begin_and_end_alike.Goals as goal

pub returns-clause-begins : goal.returns-clause-begins
returns-clause-begins c = arrays

pub returns-clause-ends : goal.returns-clause-ends
returns-clause-ends c = ends
