use Rattle.std.proofs.Common.{◌≡◌, ◌++◌, take}
use Rattle.nx_path.proofs.rename.join.Given as goal

abbrev pub invariant-loop-byte : goal.invariant-loop-byte
invariant-loop-byte l = l.path.items ≡ l.front ++ take l.byte-index l.back
