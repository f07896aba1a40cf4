use Rattle.nx_shown.proofs.Accesses.{stores}
use Rattle.nx_shown.proofs.laws.a_store_changes_what_is_shown_there_alone.Goals as goal

pub returns : goal.returns
returns c = stores
