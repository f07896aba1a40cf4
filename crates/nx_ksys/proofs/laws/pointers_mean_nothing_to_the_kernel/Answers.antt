use Rattle.nx_ksys.proofs.Meaning.{pointers_mean_nothing}
use Rattle.nx_ksys.proofs.laws.pointers_mean_nothing_to_the_kernel.Goals as goal

pub returns : goal.returns
returns c = pointers_mean_nothing
