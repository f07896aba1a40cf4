use Rattle.std.proofs.Common.{◌≡◌, take}
use Rattle.nx_env.proofs.variable.copied.Given as goal

abbrev pub invariant-loop-byte : goal.invariant-loop-byte
invariant-loop-byte g l = l.copy.items ≡ take l.byte-index l.bytes
