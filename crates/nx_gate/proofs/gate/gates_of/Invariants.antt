use Rattle.std.proofs.Common.{◌≡◌, ◌++◌, drop, map}
use Rattle.nx_gate.specs.Gates.{gate_of}
use Rattle.nx_gate.proofs.gate.gates_of.Given as goal

abbrev pub invariant-loop-row : goal.invariant-loop-row
invariant-loop-row l = l.gates.items ++ map gate_of (drop l.row-index l.rows) ≡ map gate_of l.rows
