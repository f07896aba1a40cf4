-- How large the range of a power of two is.
use Rattle.std.proofs.Common.{◌≡◌, ℕ, ◌+◌, ◌-◌, ◌*◌, ◌/◌, ◌%◌, ◌^◌, ◌<◌, ◌≤◌, refl, ap, sym, ◌∙◌, arith, ⊎_elim}
use Rattle.std.specs.Int.{w32, bit_at, trailing_ones}
use Rattle.std.proofs.lemmas.Bool.{cases_lt}
use Rattle.std.proofs.lemmas.Nat.{pow_pos, pow-add, shr_high, shr_split}
use Rattle.std.proofs.lemmas.Nat.Bits.{bit_at-trailing_ones, bit_at_cat_low, bit_at_ones, bit_at_ones_above}
use Rattle.nx_pmp.specs.declared.matching.Range.{Range}
use Rattle.nx_pmp.specs.Matching.{power_of_two_range}

-- k ones and a zero end this number
low_bit : (q k i : ℕ) → i < k + 1 → bit_at (q * 2 ^ (k + 1) + (2 ^ k - 1)) i ≡ bit_at (2 ^ k - 1) i
low_bit q k i h = bit_at_cat_low q (k + 1) (2 ^ k - 1) i h

pub ones_of : (q k : ℕ) → q * 2 ^ (k + 1) + 2 ^ (k + 1) ≤ 2 ^ 32 → trailing_ones w32 (q * 2 ^ (k + 1) + (2 ^ k - 1)) ≡ k
ones_of q k h =
    let p = pow_pos k in
    let e : 2 ^ (k + 1) ≡ 2 ^ k * 2 ^ 1 = pow-add 2 k 1 in
    let small : q * 2 ^ (k + 1) + (2 ^ k - 1) + 1 < 2 ^ 32 = omega (arith, h, p, e) in
    let t = trailing_ones w32 (q * 2 ^ (k + 1) + (2 ^ k - 1)) in
    let b = bit_at-trailing_ones w32 (q * 2 ^ (k + 1) + (2 ^ k - 1)) small in
    ⊎_elim
    (λ (l : t < k). absurd (let x : bit_at (2 ^ k - 1) t ≡ 1 = bit_at_ones k t l in let y = low_bit q k t (omega (arith, l)) in omega (arith, b.1, x, y)))
    (λ (g : k ≤ t). ⊎_elim
    (λ (l : k < t). absurd (let x : bit_at (2 ^ k - 1) k ≡ 0 = bit_at_ones_above k k (omega arith) in let y = low_bit q k k (omega arith) in let z = b.2 k l in omega (arith, x, y, z)))
    (λ (m : t ≤ k). omega (arith, g, m))
    (cases_lt k t))
    (cases_lt t k)

-- the range with a size that is given
sized : (n q k : ℕ) → trailing_ones w32 n ≡ k → 4 * n ≡ q * 2 ^ (k + 3) + 4 * (2 ^ k - 1) → power_of_two_range n ≡ record { from = q * 2 ^ (k + 3); to = q * 2 ^ (k + 3) + 2 ^ (k + 3) }
unfolding power_of_two_range
sized n q k t e =
    let p = pow_pos k in
    let s : 2 ^ (k + 3) ≡ 2 ^ k * 2 ^ 3 = pow-add 2 k 3 in
    let d : (q * 2 ^ (k + 3) + 4 * (2 ^ k - 1)) / 2 ^ (k + 3) ≡ q = shr_high q (k + 3) (4 * (2 ^ k - 1)) (omega (arith, s, p)) in
    let f : 4 * n / 2 ^ (k + 3) ≡ q = ap (λ x. x / 2 ^ (k + 3)) e ∙ d in
    ap (λ j. let first = 4 * n / 2 ^ (j + 3) * 2 ^ (j + 3) in let r : Range = record { from = first; to = first + 2 ^ (j + 3) } in r) t
    ∙ ap (λ x. let r : Range = record { from = x * 2 ^ (k + 3); to = x * 2 ^ (k + 3) + 2 ^ (k + 3) } in r) f

pub aligned_range : (base k : ℕ) → base % 2 ^ (k + 1) ≡ 0 → base + 2 ^ (k + 1) ≤ 2 ^ 32 → power_of_two_range (base + (2 ^ k - 1)) ≡ record { from = 4 * base; to = 4 * base + 2 ^ (k + 3) }
aligned_range base k whole h =
    let q = base / 2 ^ (k + 1) in
    let b : q * 2 ^ (k + 1) ≡ base = let s = shr_split base (k + 1) in omega (arith, s, whole) in
    let t : trailing_ones w32 (base + (2 ^ k - 1)) ≡ k = ap (λ x. trailing_ones w32 (x + (2 ^ k - 1))) (sym b) ∙ ones_of q k (omega (arith, b, h)) in
    let p = pow_pos k in
    let w : 2 ^ (k + 3) ≡ 4 * 2 ^ (k + 1) = let u = pow-add 2 k 3 in let v = pow-add 2 k 1 in omega (arith, u, v) in
    let m : q * 2 ^ (k + 3) ≡ 4 * base = let x : q * 2 ^ (k + 3) ≡ q * (4 * 2 ^ (k + 1)) = ap (λ z. q * z) w in omega (arith, x, b) in
    sized (base + (2 ^ k - 1)) q k t (omega (arith, m))
    ∙ ap (λ x. let r : Range = record { from = x; to = x + 2 ^ (k + 3) } in r) m

pub ones_range : power_of_two_range (2 ^ 32 - 1) ≡ record { from = 0; to = 2 ^ 35 }
unfolding power_of_two_range lib.Count.count_trailing_zeros
ones_range = refl
