use Rattle.std.proofs.Common.{◌≡◌, drop}
use Rattle.std.specs.List.{list_any}
use Rattle.nx_group.specs.Places.{opens_file}
use Rattle.nx_group.proofs.descriptions.any_key_opens.Given as goal

abbrev pub invariant-loop-key : goal.invariant-loop-key
invariant-loop-key l = list_any (opens_file l.place l.slab) (drop l.key-index l.keys) ≡ list_any (opens_file l.place l.slab) l.keys
