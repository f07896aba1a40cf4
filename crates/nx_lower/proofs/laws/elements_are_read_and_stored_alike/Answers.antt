use Rattle.nx_lower.proofs.Objects.{loads, stores}
use Rattle.nx_lower.proofs.laws.elements_are_read_and_stored_alike.Goals as goal

pub returns-clause-reads : goal.returns-clause-reads
returns-clause-reads c = loads

pub returns-clause-stores : goal.returns-clause-stores
returns-clause-stores c = stores
