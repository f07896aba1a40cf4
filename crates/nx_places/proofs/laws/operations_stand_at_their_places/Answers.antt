use Rattle.nx_places.proofs.Standing.{entries, stand, follow}
use Rattle.nx_places.proofs.laws.operations_stand_at_their_places.Goals as goal

pub returns-clause-first : goal.returns-clause-first
returns-clause-first c = entries

pub returns-clause-each : goal.returns-clause-each
returns-clause-each c = stand

pub returns-clause-next : goal.returns-clause-next
returns-clause-next c = follow
