use Rattle.std.proofs.Common.{◌∙◌, ap}
use Rattle.nx_base.specs.Views.{number_or}
use Rattle.nx_base.specs.declared.access.Access.TheVariants.{Load}
use Rattle.nx_space.proofs.Stores.{loaded}
use Rattle.nx_paged.specs.Paging.{paged_world}
use Rattle.nx_paged.specs.Lawful.{paged_lawful}
use Rattle.nx_paged.proofs.Accesses.{one_byte, reads_load, bytes_found}
use Rattle.nx_paged.proofs.Goods.{good_walked}
use Rattle.nx_paged.proofs.laws.the_view_is_what_the_walk_gives.Goals as goal

pub returns-clause-good : goal.returns-clause-good
returns-clause-good c = λ s access at n h p v. good_walked s p access at n h v

pub returns-clause-byte : goal.returns-clause-byte
returns-clause-byte c = λ s at to h p v small e. loaded (paged_world s) at 1 (paged_lawful s h) v ∙ ap (λ o. number_or o 13) (bytes_found s p (λ q. q.reads) Load at 1 to v reads_load (one_byte at small) e)
