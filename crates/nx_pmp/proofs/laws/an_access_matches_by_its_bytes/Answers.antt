use Rattle.nx_pmp.proofs.Bytes.{any_byte_is, all_bytes_are, range_is_some}
use Rattle.nx_pmp.proofs.laws.an_access_matches_by_its_bytes.Goals as goal

pub returns-clause-any : goal.returns-clause-any
returns-clause-any c = any_byte_is

pub returns-clause-all : goal.returns-clause-all
returns-clause-all c = all_bytes_are

pub returns-clause-some : goal.returns-clause-some
returns-clause-some c = range_is_some
