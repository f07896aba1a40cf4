use Rattle.nx_pmp.specs.Protection.{allows}
use Rattle.nx_pmp.proofs.Deciding.{decides_at, none_decides}
use Rattle.nx_pmp.proofs.laws.the_lowest_numbered_entry_decides.Goals as goal

pub returns-clause-decides : goal.returns-clause-decides
unfolding allows
returns-clause-decides c pmp at len i access mode h none any = decides_at pmp.entries 0 at len i access mode h none any

pub returns-clause-none : goal.returns-clause-none
unfolding allows
returns-clause-none c pmp at len access mode none = none_decides pmp.entries 0 at len access mode none
