use Rattle.nx_operations.proofs.Jumps.{jumps, tests}
use Rattle.nx_operations.proofs.laws.jumps_and_tests_lead_to_their_places.Goals as goal

pub returns-clause-jumps : goal.returns-clause-jumps
returns-clause-jumps c = jumps

pub returns-clause-tests : goal.returns-clause-tests
returns-clause-tests c = tests
