-- What the operations mean together.
use Rattle.std.proofs.Common.{◌≡◌, ◌≢◌, ℕ, zero, suc, ◌+◌, ◌-◌, ◌*◌, ◌/◌, ◌%◌, ◌^◌, ◌<◌, ◌≤◌, false, refl, sym, ap, ◌∙◌, rules, arith, w32, w64, FitsSigned, ⊎_elim}
use Rattle.std.specs.Prelude.{ℤ, pos, negsuc, neg_ℤ, ◌+ℤ◌, ◌*ℤ◌, unsigned_abs, int_div, int_rem, int_lt, int_le, not, ◌==◌}
use Rattle.std.specs.Int.{cast_unsigned}
use Rattle.std.proofs.lemmas.Int.{ints, to_z-of_z, of_z-to_z, quot-rem, rem_below, fits_signed_from_abs}
use Rattle.std.proofs.lemmas.Bool.{cases_lt}
use Rattle.std.proofs.lemmas.Bool.Decides.{nat_tests}
use Rattle.std.proofs.Math.Nat.{div-add-mod, div-le_self, div-lt_self, div-one, mod-lt, mul-le-mul_left, mul-le-mul_right}
use Rattle.nx_base.specs.declared.operations.AluOp.TheVariants.{Mul, Mulh, Mulhsu, Mulhu, Div, Divu, Rem, Remu}
use Rattle.nx_base.specs.declared.operations.Cond.TheVariants.{Eq, Ne, Lt, Ge, Ltu, Geu}
use Rattle.nx_base.specs.Arithmetic.{alu_of, taken_of, signed, word_of, upper_of}

-- the halves of a number whose lower one is that of a product
pub unsigned_halves : (a b : ℕ) → a * b ≡ 2 ^ 32 * alu_of Mulhu a b + alu_of Mul a b
unfolding alu_of
unsigned_halves a b = sym (div-add-mod (a * b) (2 ^ 32))

halves : (n p : ℕ) → n % 2 ^ 32 ≡ p % 2 ^ 32 → n ≡ 2 ^ 32 * (n / 2 ^ 32) + p % 2 ^ 32
halves n p e = omega arith

-- a word below half is its number, one above is 2 ^ 32 less
signed_low : (a : ℕ) → a < 2 ^ 31 → signed a ≡ pos a
signed_low a h = omega (arith, ints)

signed_high : (a k : ℕ) → a < 2 ^ 32 → 2 ^ 31 ≤ a → a + suc k ≡ 2 ^ 32 → signed a ≡ negsuc k
signed_high a k h l e = let f : k ≡ 2 ^ 32 - suc a = omega arith in rw f (grind (arith, nat_tests, ints))

-- the lower half of a product that is not negative, and of one that is
whole : (z : ℤ) (p : ℕ) → cast_unsigned w64 z % 2 ^ 32 ≡ p % 2 ^ 32 → cast_unsigned w64 z ≡ 2 ^ 32 * upper_of z + p % 2 ^ 32
whole z p e = halves (cast_unsigned w64 z) p e

minus : (n p : ℕ) → n ≤ 2 ^ 63 → (n + p) % 2 ^ 32 ≡ 0 → cast_unsigned w64 (neg_ℤ (pos n)) % 2 ^ 32 ≡ p % 2 ^ 32
minus zero p h e = omega arith
minus (suc n) p h e = omega arith

-- products of words above half, by what they lack of 2 ^ 32
left_lacks : (a b k : ℕ) → a + k ≡ 2 ^ 32 → (k * b + a * b) % 2 ^ 32 ≡ 0
left_lacks a b k e = let f = ap (λ t. t * b) e in omega arith

right_lacks : (a b l : ℕ) → b + l ≡ 2 ^ 32 → (a * l + a * b) % 2 ^ 32 ≡ 0
right_lacks a b l e = let f = ap (λ t. a * t) e in omega arith

both_lack : (a b k l : ℕ) → a + k ≡ 2 ^ 32 → b + l ≡ 2 ^ 32 → (k * l) % 2 ^ 32 ≡ (a * b) % 2 ^ 32
both_lack a b k l e f = let g = ap (λ t. t * l) e in let h = ap (λ t. a * t) f in omega arith

below_63 : (a b : ℕ) → a ≤ 2 ^ 31 → b ≤ 2 ^ 32 → a * b ≤ 2 ^ 63
below_63 a b h k = let l = mul-le-mul_right b h in let m = mul-le-mul_left (2 ^ 31) k in omega arith

lack : (a : ℕ) → a < 2 ^ 32 → a + suc (2 ^ 32 - 1 - a) ≡ 2 ^ 32
lack a h = omega arith

mixed_bits : (a b : ℕ) → a < 2 ^ 32 → b < 2 ^ 32 → cast_unsigned w64 (signed a *ℤ pos b) % 2 ^ 32 ≡ (a * b) % 2 ^ 32
mixed_bits a b h k =
    ⊎_elim
    (λ s. rw (signed_low a s) refl)
    (λ s. rw (signed_high a (2 ^ 32 - 1 - a) h s (lack a h)) (minus (suc (2 ^ 32 - 1 - a) * b) (a * b) (below_63 (suc (2 ^ 32 - 1 - a)) b (omega arith) (omega arith)) (left_lacks a b (suc (2 ^ 32 - 1 - a)) (lack a h))))
    (cases_lt a (2 ^ 31))

product_bits : (a b : ℕ) → a < 2 ^ 32 → b < 2 ^ 32 → cast_unsigned w64 (signed a *ℤ signed b) % 2 ^ 32 ≡ (a * b) % 2 ^ 32
product_bits a b h k =
    ⊎_elim
    (λ t. rw (signed_low b t) (mixed_bits a b h k))
    (λ t. rw (signed_high b (2 ^ 32 - 1 - b) k t (lack b k)) (⊎_elim
    (λ s. rw (signed_low a s) (minus (a * suc (2 ^ 32 - 1 - b)) (a * b) (below_63 a (suc (2 ^ 32 - 1 - b)) (omega arith) (omega arith)) (right_lacks a b (suc (2 ^ 32 - 1 - b)) (lack b k))))
    (λ s. rw (signed_high a (2 ^ 32 - 1 - a) h s (lack a h)) (both_lack a b (suc (2 ^ 32 - 1 - a)) (suc (2 ^ 32 - 1 - b)) (lack a h) (lack b k)))
    (cases_lt a (2 ^ 31))))
    (cases_lt b (2 ^ 31))

pub mixed_halves : (a b : ℕ) → a < 2 ^ 32 → b < 2 ^ 32 → cast_unsigned w64 (signed a *ℤ pos b) ≡ 2 ^ 32 * alu_of Mulhsu a b + alu_of Mul a b
unfolding alu_of
mixed_halves a b h k = whole (signed a *ℤ pos b) (a * b) (mixed_bits a b h k)

pub signed_halves : (a b : ℕ) → a < 2 ^ 32 → b < 2 ^ 32 → cast_unsigned w64 (signed a *ℤ signed b) ≡ 2 ^ 32 * alu_of Mulh a b + alu_of Mul a b
unfolding alu_of
signed_halves a b h k = whole (signed a *ℤ signed b) (a * b) (product_bits a b h k)

pub unsigned_pair : (a b : ℕ) → taken_of Geu a b ≡ not (taken_of Ltu a b)
unfolding taken_of
unsigned_pair a b = grind (arith, nat_tests)

pub equal_pair : (a b : ℕ) → taken_of Ne a b ≡ not (taken_of Eq a b)
unfolding taken_of
equal_pair a b = refl

le_not_lt : (x y : ℤ) → int_le y x ≡ not (int_lt x y)
le_not_lt (pos a) (pos b) = grind (arith, nat_tests)
le_not_lt (pos a) (negsuc b) = refl
le_not_lt (negsuc a) (pos b) = refl
le_not_lt (negsuc a) (negsuc b) = grind (arith, nat_tests)

pub signed_pair : (a b : ℕ) → taken_of Ge a b ≡ not (taken_of Lt a b)
unfolding taken_of
signed_pair a b = le_not_lt (signed a) (signed b)

pub unsigned_parts : (a b : ℕ) → 0 < b → b * alu_of Divu a b + alu_of Remu a b ≡ a
unfolding alu_of
unsigned_parts a b h = let e : (b == 0) ≡ false = grind (arith, nat_tests) in rw e (div-add-mod a b)

pub unsigned_smaller : (a b : ℕ) → 0 < b → alu_of Remu a b < b
unfolding alu_of
unsigned_smaller a b h = let e : (b == 0) ≡ false = grind (arith, nat_tests) in rw e (mod-lt a h)

signed_fits : (a : ℕ) → a < 2 ^ 32 → FitsSigned w32 (signed a)
signed_fits a h = search rules

abs_most : (z : ℤ) → FitsSigned w32 z → unsigned_abs z ≤ 2 ^ 31
abs_most (pos n) h = let s = h.sfits in omega arith
abs_most (negsuc n) h = let s = h.sfits in omega arith

-- a remainder fits where its divisor does
rem_fits : (x d : ℤ) → FitsSigned w32 d → 0 < unsigned_abs d → FitsSigned w32 (int_rem x d)
rem_fits x d f h = let r = rem_below x d h in let m = abs_most d f in fits_signed_from_abs w32 (int_rem x d) (omega arith)

abs_word : (b : ℕ) → b < 2 ^ 32 → 0 < b → 0 < unsigned_abs (signed b)
abs_word b h l = ⊎_elim (λ s. rw (signed_low b s) l) (λ s. rw (signed_high b (2 ^ 32 - 1 - b) h s (omega arith)) (omega arith)) (cases_lt b (2 ^ 31))

pub signed_smaller : (a b : ℕ) → a < 2 ^ 32 → b < 2 ^ 32 → 0 < b → unsigned_abs (signed (alu_of Rem a b)) < unsigned_abs (signed b)
unfolding alu_of
signed_smaller a b h k l =
    let e : (b == 0) ≡ false = grind (arith, nat_tests) in
    let f = rem_fits (signed a) (signed b) (signed_fits b k) (abs_word b k l) in
    rw (e, to_z-of_z w32 (int_rem (signed a) (signed b)) f) (rem_below (signed a) (signed b) (abs_word b k l))

-- a quotient fits, but that of -2 ^ 31 by -1
quot_fits_word : (x d : ℤ) → FitsSigned w32 x → FitsSigned w32 d → (d ≡ negsuc 0 → x ≢ negsuc (2 ^ 31 - 1)) → FitsSigned w32 (int_div x d)
quot_fits_word (pos x) (pos d) f g n = let s = f.sfits in let l = div-le_self x d in record { sfits = omega arith }
quot_fits_word (pos x) (negsuc d) f g n = let s = f.sfits in let l = div-le_self x (suc d) in fits_signed_from_abs w32 (int_div (pos x) (negsuc d)) (neg_small (x / suc d) (omega arith))
  where
    neg_small : (m : ℕ) → m < 2 ^ 31 → unsigned_abs (neg_ℤ (pos m)) < 2 ^ 31
    neg_small zero h = h
    neg_small (suc m) h = h
quot_fits_word (negsuc x) (pos d) f g n = let s = f.sfits in let l = div-le_self (suc x) d in neg_most (suc x / d) (omega arith)
  where
    neg_most : (m : ℕ) → m ≤ 2 ^ 31 → FitsSigned w32 (neg_ℤ (pos m))
    neg_most zero h = record { sfits = omega arith }
    neg_most (suc m) h = record { sfits = omega arith }
quot_fits_word (negsuc x) (negsuc zero) f g n =
    let s = f.sfits in
    let u : x ≢ 2 ^ 31 - 1 = λ e. n refl (ap negsuc e) in
    let o = div-one (suc x) in
    record { sfits = omega arith }
quot_fits_word (negsuc x) (negsuc (suc d)) f g n =
    let s = f.sfits in
    let l : suc x / suc (suc d) < suc x = div-lt_self (omega arith) (omega arith) in
    record { sfits = omega arith }

-- a word from its signed number
word_back : (b : ℕ) (z : ℤ) → b < 2 ^ 32 → signed b ≡ z → b ≡ word_of z
word_back b z h e = sym (of_z-to_z w32 b h) ∙ ap word_of e

pub signed_parts : (a b : ℕ) → a < 2 ^ 32 → b < 2 ^ 32 → 0 < b → (b ≡ 2 ^ 32 - 1 → a ≢ 2 ^ 31) → signed (alu_of Div a b) *ℤ signed b +ℤ signed (alu_of Rem a b) ≡ signed a
unfolding alu_of
signed_parts a b h k l n =
    let e : (b == 0) ≡ false = grind (arith, nat_tests) in
    let q = quot_fits_word (signed a) (signed b) (signed_fits a h) (signed_fits b k) (λ d x. n (word_back b _ k d) (word_back a _ h x)) in
    let r = rem_fits (signed a) (signed b) (signed_fits b k) (abs_word b k l) in
    rw (e, to_z-of_z w32 (int_div (signed a) (signed b)) q, to_z-of_z w32 (int_rem (signed a) (signed b)) r) (quot-rem (signed a) (signed b))
