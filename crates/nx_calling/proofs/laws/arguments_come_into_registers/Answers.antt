use Rattle.nx_calling.proofs.Handing.{come}
use Rattle.nx_calling.proofs.laws.arguments_come_into_registers.Goals as goal

pub returns : goal.returns
returns c = come
