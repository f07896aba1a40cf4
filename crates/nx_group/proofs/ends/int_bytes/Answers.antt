use Rattle.std.proofs.Common.{refl}
use Rattle.nx_base.specs.ByteLists.{to_le}
use Rattle.nx_group.proofs.ends.int_bytes.Goals as goal

pub returns : goal.returns
unfolding to_le
returns c = refl
