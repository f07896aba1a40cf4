use Rattle.std.proofs.Common.{◌≡◌, ◌++◌, take}
use Rattle.nx_ipc.proofs.opening.put_all.Given as goal

abbrev pub invariant-loop-byte : goal.invariant-loop-byte
invariant-loop-byte l = l.path.items ≡ l.fn.path.items ++ take l.byte-index l.bytes
