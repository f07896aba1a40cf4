use Rattle.nx_gate.proofs.FromRows.{gates_made}
use Rattle.nx_gate.proofs.gate.plan.Goals as goal

pub invariant_of-result : goal.invariant_of-result
invariant_of-result c = gates_made c.in_ok-gates.gates.items _ c.in_ok-gates.ensures c.rows.ensures.hold
