use Rattle.nx_alu.proofs.Sums.{signed_halves, mixed_halves, unsigned_halves}
use Rattle.nx_alu.proofs.laws.halves_make_the_product.Goals as goal

pub returns-clause-signed : goal.returns-clause-signed
returns-clause-signed c = signed_halves

pub returns-clause-mixed : goal.returns-clause-mixed
returns-clause-mixed c = mixed_halves

pub returns-clause-unsigned : goal.returns-clause-unsigned
returns-clause-unsigned c = unsigned_halves
