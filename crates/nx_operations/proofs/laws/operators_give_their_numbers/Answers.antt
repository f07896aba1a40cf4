use Rattle.nx_operations.proofs.Operators.{comparisons, binaries, constants, unaries}
use Rattle.nx_operations.proofs.laws.operators_give_their_numbers.Goals as goal

pub returns-clause-comparisons : goal.returns-clause-comparisons
returns-clause-comparisons c = comparisons

pub returns-clause-binaries : goal.returns-clause-binaries
returns-clause-binaries c = binaries

pub returns-clause-constants : goal.returns-clause-constants
returns-clause-constants c = constants

pub returns-clause-unaries : goal.returns-clause-unaries
returns-clause-unaries c = unaries
