-- The low part of a number is told by the low parts of what its digits make.
use Rattle.std.proofs.Common.{◌≡◌, ℕ, ◌+◌, ◌*◌, ◌/◌, ◌%◌, List, [], ◌∷◌, sym, ap, ◌∙◌, add_assoc}
use Rattle.std.proofs.Math.Nat.{div-add-mod, mul-add-mod_self_left, add-mul, mul_assoc}
use Rattle.std.specs.Char.{digit_value}
use Rattle.std.specs.Str.Parse.{digits_value, digits_value_after}

-- A digit more.
low_digit : (n base d m : ℕ) → (n % m * base + d) % m ≡ (n * base + d) % m
low_digit n base d m =
    let e : n * base + d ≡ m * (n / m * base) + (n % m * base + d) =
    ap (λ k. k * base + d) (sym (div-add-mod n m)) ∙ ap (λ k. k + d) (add-mul (m * (n / m)) (n % m) base ∙ ap (λ k. k + n % m * base) (mul_assoc m (n / m) base)) ∙ add_assoc (m * (n / m * base)) (n % m * base) d in
    sym (ap (λ k. k % m) e ∙ mul-add-mod_self_left m (n / m * base) (n % m * base + d))

low_self : (n m : ℕ) → n % m % m ≡ n % m
low_self n m = sym (ap (λ k. k % m) (sym (div-add-mod n m)) ∙ mul-add-mod_self_left m (n / m) (n % m))

-- All digits.
low_digits : (base n m : ℕ) (ds : List ℕ) → digits_value_after base (n % m) ds % m ≡ digits_value_after base n ds % m
low_digits base n m [] = low_self n m
low_digits base n m (d ∷ ds) =
    sym (low_digits base (n % m * base + digit_value d) m ds)
    ∙ ap (λ k. digits_value_after base k ds % m) (low_digit n base (digit_value d) m)
    ∙ low_digits base (n * base + digit_value d) m ds

-- One digit more, as the code has it.
pub low_more : (base n d m : ℕ) (ds more all : List ℕ) → ds ≡ d ∷ more → digits_value_after base n ds % m ≡ digits_value base all % m →
    digits_value_after base ((n * base + digit_value d) % m) more % m ≡ digits_value base all % m
low_more base n d m ds more all e h = low_digits base (n * base + digit_value d) m more ∙ sym (ap (λ x. digits_value_after base n x % m) e) ∙ h
