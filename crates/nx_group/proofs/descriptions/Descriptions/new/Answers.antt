use Rattle.std.proofs.Common.{refl}
use Rattle.nx_group.proofs.Keys.{kept_none, seen_none}
use Rattle.nx_group.proofs.descriptions.Descriptions.new.Goals as goal

pub invariant_of-result : goal.invariant_of-result
invariant_of-result c = kept_none _ _ _ c.in_ok-keys.ensures c.in_ok-slab.ensures

pub returns : goal.returns
returns c = seen_none _ _ _ c.in_ok-keys.ensures refl
