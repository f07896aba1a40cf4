use Rattle.std.proofs.Common.{◌≡◌, take}
use Rattle.nx_gate.proofs.gate.same_gates.Given as goal

abbrev pub invariant-loop-gate : goal.invariant-loop-gate
invariant-loop-gate l = l.same.items ≡ take l.gate-index l.gates
