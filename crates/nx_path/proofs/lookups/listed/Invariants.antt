use Rattle.std.proofs.Common.{◌≡◌, take}
use Rattle.nx_path.proofs.lookups.listed.Given as goal

abbrev pub invariant-loop-byte : goal.invariant-loop-byte
invariant-loop-byte l = l.text.items ≡ take l.byte-index l.name
