use Rattle.nx_slot.proofs.Stretches.{once, parts}
use Rattle.nx_slot.proofs.laws.a_run_comes_to_one_answer.Goals as goal

pub returns-clause-once : goal.returns-clause-once
returns-clause-once c = once

pub returns-clause-parts : goal.returns-clause-parts
returns-clause-parts c = parts
