use Rattle.nx_paged.proofs.Shares.{none_shared}
use Rattle.nx_paged.proofs.laws.groups_share_no_byte.Goals as goal

pub returns : goal.returns
returns c = none_shared
