use Rattle.std.proofs.Common.{List, sym, subst}
use Rattle.nx_gate.specs.declared.gate.Gate.{Gate}
use Rattle.nx_gate.specs.Gates.{AreSmall}
use Rattle.nx_gate.proofs.FromRows.{small_numbers}
use Rattle.nx_gate.proofs.gate.Gates.as_slice.Goals as goal

pub returns-clause-small : goal.returns-clause-small
returns-clause-small c = subst (λ (gs : List Gate). AreSmall gs) (sym c.as_slice.ensures.value) (small_numbers c.self.inside.gates.items c.self.invariant)
