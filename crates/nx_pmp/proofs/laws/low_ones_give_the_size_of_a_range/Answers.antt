use Rattle.nx_pmp.proofs.Sizes.{aligned_range, ones_range}
use Rattle.nx_pmp.proofs.laws.low_ones_give_the_size_of_a_range.Goals as goal

pub returns-clause-aligned : goal.returns-clause-aligned
returns-clause-aligned c = aligned_range

pub returns-clause-ones : goal.returns-clause-ones
returns-clause-ones c = ones_range
