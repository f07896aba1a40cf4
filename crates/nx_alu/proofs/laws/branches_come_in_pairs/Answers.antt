use Rattle.nx_alu.proofs.Sums.{equal_pair, signed_pair, unsigned_pair}
use Rattle.nx_alu.proofs.laws.branches_come_in_pairs.Goals as goal

pub returns-clause-equal : goal.returns-clause-equal
returns-clause-equal c = equal_pair

pub returns-clause-signed : goal.returns-clause-signed
returns-clause-signed c = signed_pair

pub returns-clause-unsigned : goal.returns-clause-unsigned
returns-clause-unsigned c = unsigned_pair
