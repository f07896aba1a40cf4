use Rattle.std.proofs.Common.{◌≡◌, ◌++◌, take}
use Rattle.std.specs.List.{flat_map}
use Rattle.nx_image.specs.Bytes.{gate_bytes}
use Rattle.nx_image.proofs.bytes.put_gates.Given as goal

abbrev pub invariant-loop-gate : goal.invariant-loop-gate
invariant-loop-gate l = l.bytes ≡ l.fn.bytes ++ flat_map gate_bytes (take l.gate-index l.gates)
