use Rattle.nx_ram.proofs.Puts.{half_set}
use Rattle.nx_ram.proofs.ram.Ram.store16.Goals as goal

pub returns-clause-bytes : goal.returns-clause-bytes
returns-clause-bytes c = half_set c.self.inside.bytes.items c.args.self.now c.args.at c.args.value c.self.view_is c.requires
