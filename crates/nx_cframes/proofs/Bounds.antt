-- The bytes of a call by counts that may have reached 2^32.
use Rattle.std.proofs.Common.{◌≡◌, ℕ, ◌^◌, ◌<◌, ◌≤◌, arith, ap, ◌∙◌}
use Rattle.nx_cframes.specs.Counts.{capped, bytes_with}

-- A count below 2^32 is exact, and one of 2^32 or more stays so.
pub exact : (a x : ℕ) → a ≡ capped x → a < 2 ^ 32 → a ≡ x
unfolding capped
exact a x h l = omega (arith, h, l)

pub reached : (a x : ℕ) → a ≡ capped x → 2 ^ 32 ≤ a → 2 ^ 32 ≤ x
unfolding capped
reached a x h l = omega (arith, h, l)

pub exact_bytes : (a b x y : ℕ) → a ≡ capped x → b ≡ capped y → a < 2 ^ 32 → b < 2 ^ 32 → bytes_with a b ≡ bytes_with x y
exact_bytes a b x y h g l k = ap (λ (n : ℕ). bytes_with n b) (exact a x h l) ∙ ap (λ (n : ℕ). bytes_with x n) (exact b y g k)

pub many_cells : (x y : ℕ) → 2 ^ 32 ≤ x → 2 ^ 32 ≤ bytes_with x y
many_cells x y h = omega (arith, h)

pub many_arrays : (x y : ℕ) → 2 ^ 32 ≤ y → 2 ^ 32 ≤ bytes_with x y
many_arrays x y h = omega (arith, h)
