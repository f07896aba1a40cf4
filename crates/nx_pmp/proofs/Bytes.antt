-- Accesses and ranges, byte by byte.
use Rattle.std.proofs.Common.{◌≡◌, ◌↔◌, ℕ, ◌+◌, ◌-◌, ◌*◌, ◌<◌, ◌≤◌, max, Bool, true, false, IsTrue, ltb, cond, Some, None, refl, subst, arith}
use Rattle.std.specs.Bool.{Decides}
use Rattle.std.specs.Int.{w32, trailing_ones}
use Rattle.std.proofs.lemmas.Bool.Decides.{Decides-and, Decides-ltb}
use Rattle.std.proofs.lemmas.Bool.{ltb-true, leb-true, le-leb}
use Rattle.std.proofs.lemmas.Nat.{pow_pos}
use Rattle.nx_pmp.specs.declared.matching.Matching.{Matching}
use Rattle.nx_pmp.specs.declared.matching.Matching.TheVariants.{Off, Tor, Na4, Napot}
use Rattle.nx_pmp.specs.declared.matching.Range.{Range}
use Rattle.nx_pmp.specs.Matching.{matched, power_of_two_range, matches_any, matches_all, IsByteOf, Covers}

pub any_byte_is : (r : Range) (at len : ℕ) → r.from < r.to → 1 ≤ len → IsTrue (matches_any r at len) ↔ ((k : ℕ) × IsByteOf at len k × Covers r k)
any_byte_is r at len some one =
    let d : Decides (matches_any r at len) ((at < r.to) × (r.from < at + len)) = Decides-and _ _ (Decides-ltb at r.to) (Decides-ltb r.from (at + len)) in
    (λ t. let h = d.0 t in (max at r.from, (omega arith, omega (arith, h.1, one)), (omega arith, omega (arith, h.0, some))), λ k. d.1 (omega (arith, k.1.0, k.2.1), omega (arith, k.1.1, k.2.0)))

pub all_bytes_are : (r : Range) (at len : ℕ) → 1 ≤ len → IsTrue (matches_all r at len) ↔ ((k : ℕ) → IsByteOf at len k → Covers r k)
all_bytes_are r at len one =
    let d : Decides (matches_all r at len) ((r.from ≤ at) × (at + len ≤ r.to)) = Decides-and _ _ (leb-true r.from at, le-leb r.from at) (leb-true (at + len) r.to, le-leb (at + len) r.to) in
    (λ t k b. let h = d.0 t in (omega (arith, h.0, b.0), omega (arith, h.1, b.1)), λ every. let last : at ≤ at + len - 1 = omega (arith, one) in d.1 ((every at (omega arith, omega (arith, one))).0, let e = (every (at + len - 1) (last, omega (arith, one))).1 in omega (arith, e, one)))

some_above : (before addr : ℕ) (b : Bool) (r : Range) → (b ≡ true → before < addr) → cond b (Some (record { from = 4 * before; to = 4 * addr })) None ≡ Some r → r.from < r.to
some_above before addr true r lt e = let f : record { from = 4 * before; to = 4 * addr } ≡ r = cc in subst (λ (q : Range). q.from < q.to) f (omega (arith, lt refl))
some_above before addr false r lt e = absurd cc

power_some : (addr : ℕ) → let q = power_of_two_range addr in q.from < q.to
unfolding power_of_two_range
power_some addr = omega (arith, pow_pos (trailing_ones w32 addr + 3))

pub range_is_some : (m : Matching) (before addr : ℕ) (r : Range) → matched m before addr ≡ Some r → r.from < r.to
range_is_some Off before addr r e = absurd cc
range_is_some Tor before addr r e = some_above before addr (ltb before addr) r (ltb-true before addr) e
range_is_some Na4 before addr r e = let f : record { from = 4 * addr; to = 4 * addr + 4 } ≡ r = cc in subst (λ (q : Range). q.from < q.to) f (omega arith)
range_is_some Napot before addr r e = let f : power_of_two_range addr ≡ r = cc in subst (λ (q : Range). q.from < q.to) f (power_some addr)
