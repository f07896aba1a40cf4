-- When a number of digits fits.
use Rattle.std.proofs.Common.{◌≡◌, ℕ, zero, suc, ◌+◌, ◌*◌, ◌^◌, ◌<◌, ◌≤◌, List, [], ◌∷◌, refl, sym, ap, ◌∙◌, arith, subst}
use Rattle.std.proofs.Math.Nat.{mul-suc}
use Rattle.std.proofs.lemmas.Bool.{le-ltb, lt-ltb}
use Rattle.std.specs.Prelude.{None, Some}
use Rattle.std.specs.Char.{digit_value}
use Rattle.std.specs.Str.Parse.{digits_value, digits_value_after}
use Rattle.nx_base.specs.TextBytes.{below_2_64}

-- A base makes a number no smaller.
mul_least : (n base : ℕ) → 1 ≤ base → n ≤ n * base
mul_least n zero h = absurd (omega arith)
mul_least n (suc b) h = omega (arith, mul-suc n b)

-- Digits make a number no smaller.
digits_least : (base n : ℕ) (ds : List ℕ) → 1 ≤ base → n ≤ digits_value_after base n ds
digits_least base n [] h = omega arith
digits_least base n (d ∷ ds) h = let more : n * base + digit_value d ≤ digits_value_after base (n * base + digit_value d) ds = digits_least base (n * base + digit_value d) ds h in omega (arith, mul_least n base h, more)

-- A number of 2^64 or more doesn't fit.
pub wide_none : (n : ℕ) → 2 ^ 64 ≤ n → None ≡ below_2_64 n
wide_none n h = rw (le-ltb n (2 ^ 64) h) refl

-- A smaller one does.
pub small_some : (n : ℕ) → n < 2 ^ 64 → Some n ≡ below_2_64 n
small_some n h = rw (lt-ltb n (2 ^ 64) h) refl

-- Where it doesn't fit with one digit more, it doesn't fit with all.
pub wide : (base n d : ℕ) (ds more all : List ℕ) → 1 ≤ base → ds ≡ d ∷ more → digits_value_after base n ds ≡ digits_value base all → 2 ^ 64 ≤ n * base + digit_value d → None ≡ below_2_64 (digits_value base all)
wide base n d ds more all h e same w =
    let least = digits_least base (n * base + digit_value d) more h in
    let is : digits_value_after base (n * base + digit_value d) more ≡ digits_value base all = sym (ap (digits_value_after base n) e) ∙ same in
    wide_none (digits_value base all) (subst (λ x. 2 ^ 64 ≤ x) is (omega (arith, least, w)))

-- Where no digit is left, it is the number.
pub whole : (base n : ℕ) (ds all : List ℕ) → ds ≡ [] → digits_value_after base n ds ≡ digits_value base all → n < 2 ^ 64 → Some n ≡ below_2_64 (digits_value base all)
whole base n ds all e same f =
    let is : n ≡ digits_value base all = sym (ap (digits_value_after base n) e) ∙ same in
    subst (λ x. Some n ≡ below_2_64 x) is (small_some n f)

-- What is not less is no less.
pub not_less : (n m : ℕ) → (n < m → ⊥) → m ≤ n
not_less n m h = grind (arith, h)
