-- Where nothing differs, nothing but the entered view does.
use Rattle.std.proofs.Common.{◌≡◌, sym, subst}
use Rattle.nx_space.specs.World.{World}
use Rattle.nx_space.specs.Lawful.{OnlyEntered}
use Rattle.nx_space.proofs.Stores.{only_refl}

pub only_same : (v w : World) → w ≡ v → OnlyEntered v w
only_same v w e = subst (OnlyEntered v) (sym e) (only_refl v)
