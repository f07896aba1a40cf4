use Rattle.std.proofs.Common.{sym, ap, arith, length}
use Rattle.nx_ram.proofs.Puts.{small_written}
use Rattle.nx_ram.proofs.ram.Ram.store32.Goals as goal

pub invariant_of-self : goal.invariant_of-self
invariant_of-self c =
    let lent = c.deref_mut.ensures in
    let held = ap length lent.value in
    let whole = ap length c.self.view_is in
    small_written c.self.inside.bytes.items c.deref_mut.result.now c.put_le32.new.bytes c.self.inside.bytes.len c.args.at 4 c.args.value (sym lent.value) (sym lent.len)
    (omega (arith, held, whole, c.requires)) c.self.invariant.1 (omega (arith, held, c.self.invariant.0)) c.put_le32.ensures
