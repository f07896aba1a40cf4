use Rattle.std.proofs.Common.{◌≡◌, ◌++◌, map, take}
use Rattle.nx_image.specs.Bytes.{kind_number}
use Rattle.nx_image.proofs.bytes.put_kinds.Given as goal

abbrev pub invariant-loop-kind : goal.invariant-loop-kind
invariant-loop-kind l = l.bytes ≡ l.fn.bytes ++ map kind_number (take l.kind-index l.kinds)
