use Rattle.std.proofs.Common.{sym}
use Rattle.nx_codegen.proofs.Bounds.{array_small}
use Rattle.nx_codegen.proofs.calling.put_clear.Goals as goal

pub rounded_bytes-requires : goal.rounded_bytes-requires
rounded_bytes-requires c = array_small c.args.function.now c.args.number c.in-Some.array.now c.requires.framed (sym c.in-Some.ensures.value)
