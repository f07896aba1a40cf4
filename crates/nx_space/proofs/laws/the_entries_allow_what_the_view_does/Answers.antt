use Rattle.nx_space.proofs.ProtectedLemmas.{allowed_found}
use Rattle.nx_space.proofs.laws.the_entries_allow_what_the_view_does.Goals as goal

pub returns : goal.returns
returns c = allowed_found
