use Rattle.nx_shown.proofs.Steps.{instructions, on}
use Rattle.nx_shown.proofs.laws.each_instruction_leads_on.Goals as goal

pub returns-clause-one : goal.returns-clause-one
returns-clause-one c = instructions

pub returns-clause-parts : goal.returns-clause-parts
returns-clause-parts c = on
