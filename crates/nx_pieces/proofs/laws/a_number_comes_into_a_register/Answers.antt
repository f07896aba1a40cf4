use Rattle.nx_pieces.proofs.Parts.{number_sets, above_sets}
use Rattle.nx_pieces.proofs.laws.a_number_comes_into_a_register.Goals as goal

pub returns-clause-numbers : goal.returns-clause-numbers
returns-clause-numbers c = number_sets

pub returns-clause-places : goal.returns-clause-places
returns-clause-places c = above_sets
