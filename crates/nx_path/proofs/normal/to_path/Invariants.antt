use Rattle.std.proofs.Common.{◌≡◌, take}
use Rattle.nx_path.proofs.normal.to_path.Given as goal

abbrev pub invariant-loop-byte : goal.invariant-loop-byte
invariant-loop-byte l = l.path.items ≡ take l.byte-index l.bytes
