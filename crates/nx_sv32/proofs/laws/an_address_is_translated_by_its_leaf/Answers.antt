use Rattle.nx_sv32.proofs.Walks.{walked_is, walked_of}
use Rattle.nx_sv32.proofs.laws.an_address_is_translated_by_its_leaf.Goals as goal

pub returns : goal.returns
returns c ram satp at to access = (walked_is ram satp at to access, walked_of ram satp at to access)
