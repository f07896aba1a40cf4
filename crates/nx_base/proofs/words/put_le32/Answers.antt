use Rattle.nx_base.specs.ByteLists.{to_le}
use Rattle.nx_base.proofs.Puts.{set_four}
use Rattle.nx_base.proofs.words.put_le32.Goals as goal

pub returns : goal.returns
unfolding to_le
returns c = set_four c.args.bytes.now c.args.at _ _ _ _ c.requires
