use Rattle.std.proofs.Common.{arith}
use Rattle.nx_ram.proofs.Puts.{byte_set}
use Rattle.nx_ram.proofs.ram.Ram.store8.Goals as goal

pub returns-clause-bytes : goal.returns-clause-bytes
returns-clause-bytes c = byte_set c.self.inside.bytes.items c.args.self.now c.args.at c.args.value c.self.view_is (omega arith) c.requires
