use Rattle.nx_space.proofs.Stores.{only_refl}
use Rattle.nx_copy.proofs.delivery.put_one.Goals as goal

pub returns-else-is_output-clause-only : goal.returns-else-is_output-clause-only
returns-else-is_output-clause-only g c = only_refl (g.S.Space.world c.args.space.now)
