use Rattle.std.proofs.Common.{sym, ap, arith, length, subst}
use Rattle.nx_base.specs.ByteLists.{AreBytes}
use Rattle.nx_base.proofs.Puts.{length-to_le}
use Rattle.nx_ram.proofs.Puts.{small_put, small_number}
use Rattle.nx_space.proofs.Sharings.{kept_ram}
use Rattle.nx_space.proofs.shared.SharedRam.store.Goals as goal

pub invariant_of-self : goal.invariant_of-self
invariant_of-self c =
    let h = c.self.invariant.0 in
    let whole = ap (λ s. s.size) c.self.view_is in
    let n = length-to_le c.args.width c.args.value in
    (kept_ram _ c.store.new.self h c.store.ensures.long (subst AreBytes (sym c.store.ensures.bytes) (small_put _ c.args.at _ (omega (arith, whole, h.whole, n, c.requires.inside)) h.bytes (small_number c.args.width c.args.value))), c.self.invariant.1)

pub returns-clause-kept : goal.returns-clause-kept
returns-clause-kept c = (invariant_of-self c).0
