use Rattle.nx_places.proofs.Costs.{suffice}
use Rattle.nx_places.proofs.There.{are_there}
use Rattle.nx_places.proofs.laws.an_operation_has_no_more_instructions_than_it_costs.Goals as goal

pub returns-clause-few : goal.returns-clause-few
returns-clause-few c = suffice

pub returns-clause-some : goal.returns-clause-some
returns-clause-some c = are_there
