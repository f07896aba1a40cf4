use Rattle.nx_places.proofs.Standing.{lie}
use Rattle.nx_places.proofs.laws.places_lie_among_addresses.Goals as goal

pub returns : goal.returns
returns c = lie
