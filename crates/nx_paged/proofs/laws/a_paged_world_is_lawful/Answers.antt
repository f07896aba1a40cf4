use Rattle.nx_paged.specs.State.{state_of}
use Rattle.nx_paged.specs.Lawful.{paged_lawful, paged_bytes}
use Rattle.nx_paged.proofs.laws.a_paged_world_is_lawful.Goals as goal

pub returns-clause-world : goal.returns-clause-world
returns-clause-world c = paged_lawful (state_of c.args.space.now) c.args.space.now.placed

pub returns-clause-bytes : goal.returns-clause-bytes
returns-clause-bytes c = paged_bytes (state_of c.args.space.now) c.args.space.now.placed
