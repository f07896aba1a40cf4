use Rattle.nx_slot.proofs.Prices.{little}
use Rattle.nx_slot.proofs.Stretches.{each}
use Rattle.nx_slot.proofs.laws.operations_cost_little.Goals as goal

pub returns-clause-each : goal.returns-clause-each
returns-clause-each c = little

pub returns-clause-run : goal.returns-clause-run
returns-clause-run c = each
