use Rattle.nx_alu.proofs.Sums.{signed_parts, signed_smaller, unsigned_parts, unsigned_smaller}
use Rattle.nx_alu.proofs.laws.quotient_and_remainder_make_the_dividend.Goals as goal

pub returns-clause-signed : goal.returns-clause-signed
returns-clause-signed c = signed_parts

pub returns-clause-signed_smaller : goal.returns-clause-signed_smaller
returns-clause-signed_smaller c = signed_smaller

pub returns-clause-unsigned : goal.returns-clause-unsigned
returns-clause-unsigned c = unsigned_parts

pub returns-clause-unsigned_smaller : goal.returns-clause-unsigned_smaller
returns-clause-unsigned_smaller c = unsigned_smaller
