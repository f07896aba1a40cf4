use Rattle.nx_space.specs.Flat.{flat_world}
use Rattle.nx_space.proofs.Stays.{entered_stays}
use Rattle.nx_space.proofs.tests.put.Goals as goal

pub returns : goal.returns
returns c = entered_stays (flat_world c.args.space.now.shared) (flat_world c.store.new.self.shared) c.store.ensures.only c.requires.entered
