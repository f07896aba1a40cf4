use Rattle.nx_slot.proofs.Below.{needs}
use Rattle.nx_slot.proofs.laws.an_entry_needs_the_open_calls.Goals as goal

pub returns : goal.returns
returns c = needs
