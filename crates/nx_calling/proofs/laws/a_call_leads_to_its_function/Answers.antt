use Rattle.nx_calling.proofs.Handing.{calls}
use Rattle.nx_calling.proofs.laws.a_call_leads_to_its_function.Goals as goal

pub returns : goal.returns
returns c = calls
