use Rattle.nx_entries.proofs.Entries.{leads}
use Rattle.nx_entries.proofs.laws.a_function_returns_its_value.Goals as goal

pub returns : goal.returns
returns c = leads
