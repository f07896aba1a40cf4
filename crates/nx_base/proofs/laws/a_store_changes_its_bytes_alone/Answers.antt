use Rattle.nx_base.proofs.Stores.{fetch-store_other, load-store_other, load-store_same}
use Rattle.nx_base.proofs.laws.a_store_changes_its_bytes_alone.Goals as goal

pub returns-clause-same : goal.returns-clause-same
returns-clause-same c = load-store_same

pub returns-clause-load : goal.returns-clause-load
returns-clause-load c = load-store_other

pub returns-clause-fetch : goal.returns-clause-fetch
returns-clause-fetch c = fetch-store_other
