-- What operations of the machine give, as the operators of slot code.
use Rattle.std.proofs.Common.{◌≡◌, ◌≢◌, ℕ, zero, suc, ◌+◌, ◌-◌, ◌*◌, ◌/◌, ◌%◌, ◌^◌, ◌<◌, ◌≤◌, Bool, true, false, refl, sym, ap, ◌∙◌, arith, ⊎_elim}
use Rattle.std.specs.Prelude.{ℤ, pos, negsuc, ◌==◌, nat_lt, if◌then◌else◌, not, bit_xor, int_lt, int_le, int_div, int_rem}
use Rattle.std.specs.Int.{w32, cast_unsigned, int_shr}
use mir.Val.{sel}
use lib.IntN.{neg_ℤ}
use lib.Signed.{mag, mag_rem, mag_shr}
use lib.Bits.{xor_self, xor_assoc, xor_zero_r, xor_comm}
use Rattle.std.proofs.lemmas.Bool.{cases_eq}
use Rattle.std.proofs.lemmas.Bool.Decides.{nat_tests}
use Rattle.std.proofs.lemmas.Nat.{xor_of_32, or_of_32, and_le_l, and_mask}
use Rattle.std.proofs.Math.Nat.{div-le_self}
use Rattle.nx_base.specs.declared.operations.AluOp.{AluOp}
use Rattle.nx_base.specs.declared.operations.AluOp.TheVariants as alu
use Rattle.nx_base.specs.Arithmetic.{alu_of, flag, signed, word_of}
use Rattle.nx_rv.specs.Execution.{plus}
use Rattle.nx_codegen.specs.Addresses.{upper, lower}
use Rattle.nx_pieces.proofs.Parts.{parts_make}

flag_small : (b : Bool) → flag b < 2 ^ 32
flag_small true = omega arith
flag_small false = omega arith

pub sub_is : (a b : ℕ) → alu_of alu.Sub a b ≡ (a + (2 ^ 32 - b)) % 2 ^ 32
unfolding alu_of
sub_is a b = refl

pub equal_is : (a b : ℕ) → a < 2 ^ 32 → b < 2 ^ 32 → alu_of alu.Sltu ((a + (2 ^ 32 - b)) % 2 ^ 32) 1 ≡ flag (a == b)
unfolding alu_of
equal_is a b h k = ap flag (grind (arith, nat_tests))

pub unequal_is : (a b : ℕ) → a < 2 ^ 32 → b < 2 ^ 32 → alu_of alu.Sltu 0 ((a + (2 ^ 32 - b)) % 2 ^ 32) ≡ flag (not (a == b))
unfolding alu_of
unequal_is a b h k = ap flag (grind (arith, nat_tests))

pub less_is : (a b : ℕ) → alu_of alu.Slt a b ≡ flag (int_lt (signed a) (signed b))
unfolding alu_of
less_is a b = refl

pub le_is : (x y : ℤ) → int_le x y ≡ not (int_lt y x)
le_is (pos a) (pos b) = grind (arith, nat_tests)
le_is (pos a) (negsuc b) = refl
le_is (negsuc a) (pos b) = refl
le_is (negsuc a) (negsuc b) = grind (arith, nat_tests)

turned : (q : Bool) → alu_of alu.Xor (flag q) 1 ≡ flag (not q)
unfolding alu_of
turned true = refl
turned false = refl

pub at_least_is : (a b : ℕ) → alu_of alu.Xor (flag (int_lt (signed a) (signed b))) 1 ≡ flag (int_le (signed b) (signed a))
at_least_is a b = turned (int_lt (signed a) (signed b)) ∙ ap flag (sym (le_is (signed b) (signed a)))

-- Numbers are equal where their exclusive or is 0.
same_xor : (a b : ℕ) → bit_xor a b ≡ 0 → a ≡ b
same_xor a b h = sym (xor_zero_r a) ∙ ap (bit_xor a) (sym (xor_self b)) ∙ sym (xor_assoc a b b) ∙ ap (λ z. bit_xor z b) h ∙ xor_comm 0 b ∙ xor_zero_r b

xor_test : (a b : ℕ) → (bit_xor a b == 0) ≡ (a == b)
xor_test a b = ⊎_elim
    (λ e. let z : bit_xor a b ≡ 0 = ap (λ x. bit_xor x b) e ∙ xor_self b in rw z (grind (arith, nat_tests)))
    (λ o. let n : bit_xor a b ≢ 0 = λ z. o (same_xor a b z) in
    let p : (bit_xor a b == 0) ≡ false = grind (arith, nat_tests) in let q : (a == b) ≡ false = grind (arith, nat_tests) in p ∙ sym q)
    (cases_eq a b)

zero_is : (a : ℕ) → alu_of alu.Sltu a 1 ≡ flag (a == 0)
unfolding alu_of
zero_is a = ap flag (grind (arith, nat_tests))

truth_is : (a : ℕ) → alu_of alu.Sltu 0 a ≡ flag (not (a == 0))
unfolding alu_of
truth_is a = ap flag (grind (arith, nat_tests))

xor_is : (a b : ℕ) → alu_of alu.Xor a b ≡ bit_xor a b
unfolding alu_of
xor_is a b = refl

pub equal_by_xor : (a b : ℕ) → alu_of alu.Sltu (alu_of alu.Xor a b) 1 ≡ flag (a == b)
equal_by_xor a b = ap (λ x. alu_of alu.Sltu x 1) (xor_is a b) ∙ zero_is (bit_xor a b) ∙ ap flag (xor_test a b)

pub unequal_by_xor : (a b : ℕ) → alu_of alu.Sltu 0 (alu_of alu.Xor a b) ≡ flag (not (a == b))
unequal_by_xor a b = ap (λ x. alu_of alu.Sltu 0 x) (xor_is a b) ∙ truth_is (bit_xor a b) ∙ ap (λ q. flag (not q)) (xor_test a b)

-- A difference with a number is the sum with its negative.
pub subtract_is : (a n : ℕ) → n < 2 ^ 32 → alu_of alu.Add a ((2 ^ 32 - n) % 2 ^ 32) ≡ alu_of alu.Sub a n
unfolding alu_of
subtract_is a n h = omega arith

pub low_is : (a : ℕ) → alu_of alu.And a 255 ≡ a % 256
unfolding alu_of
low_is a = and_mask a 8

pub left_is : (a n : ℕ) → alu_of alu.Sll a (n % 32) ≡ alu_of alu.Sll a n
unfolding alu_of
left_is a n = let e : n % 32 % 32 ≡ n % 32 = omega arith in ap (λ k. a * 2 ^ k % 2 ^ 32) e

pub right_is : (a n : ℕ) → alu_of alu.Sra a (n % 32) ≡ alu_of alu.Sra a n
unfolding alu_of
right_is a n = let e : n % 32 % 32 ≡ n % 32 = omega arith in ap (λ k. word_of (int_shr (signed a) k)) e

pub scaled_is : (a b : ℕ) → alu_of alu.Add a (alu_of alu.Sll b 2) ≡ (a + 4 * b) % 2 ^ 32
unfolding alu_of
scaled_is a b = omega arith

pub sum_is : (a b : ℕ) → alu_of alu.Add a b ≡ (a + b) % 2 ^ 32
unfolding alu_of
sum_is a b = refl

-- A signed number of 12 bits whose upper part is 0 is the number.
lower_small : (n : ℕ) → cast_unsigned w32 (lower n) < 2 ^ 32
unfolding lower
lower_small n = by_sign (nat_lt (n % 4096) 2048)
  where
    by_sign : (q : Bool) → cast_unsigned w32 (if q then pos (n % 4096) else negsuc (4095 - n % 4096)) < 2 ^ 32
    by_sign true = omega arith
    by_sign false = omega arith

plus_none : (z : ℤ) → plus 0 z ≡ (0 + cast_unsigned w32 z) % 2 ^ 32
unfolding plus
plus_none z = refl

is_small : (x : ℕ) → x < 2 ^ 32 → (0 + x) % 2 ^ 32 ≡ x
is_small x k = omega arith

pub short_is : (n : ℕ) → n < 2 ^ 32 → upper n ≡ 0 → cast_unsigned w32 (lower n) ≡ n
short_is n h u = sym (is_small (cast_unsigned w32 (lower n)) (lower_small n)) ∙ sym (plus_none (lower n)) ∙ ap (λ k. plus k (lower n)) (sym u) ∙ parts_make n h

-- Results are numbers of 32 bits.
abbrev IsShort : ℤ → Type 0
IsShort z = mag z ≤ 2 ^ 31

abbrev IsSigned : ℤ → Type 0
IsSigned z = mag z < 2 ^ 31

short_sel : (q : Bool) (a : ℕ) → (q ≡ true → a < 2 ^ 31) → (q ≡ false → 2 ^ 31 ≤ a) → a < 2 ^ 32 → IsSigned (sel q (pos a) (negsuc (2 ^ 32 - suc a)))
short_sel true a k l h = k refl
short_sel false a k l h = let m = l refl in omega (arith, m)

signed_short : (a : ℕ) → a < 2 ^ 32 → IsSigned (signed a)
signed_short a h = short_sel _ a (λ q. grind (arith, nat_tests)) (λ q. grind (arith, nat_tests)) h

cast_short : (z : ℤ) → IsShort z → cast_unsigned w32 z < 2 ^ 32
cast_short (pos n) h = omega (arith, h)
cast_short (negsuc n) h = omega arith

minus_short : (n : ℕ) → n ≤ suc (2 ^ 31) → IsShort (neg_ℤ (pos n))
minus_short zero h = omega arith
minus_short (suc n) h = let e : mag (neg_ℤ (pos (suc n))) ≡ n = refl in omega (arith, h, e)

quotient_short : (x y : ℤ) → IsSigned x → IsShort (int_div x y)
quotient_short (pos a) (pos b) h = let d = div-le_self a b in omega (arith, d, h)
quotient_short (pos a) (negsuc b) h = minus_short (a / suc b) (let d = div-le_self a (suc b) in omega (arith, d, h))
quotient_short (negsuc a) (pos b) h = minus_short (suc a / b) (let d = div-le_self (suc a) b in omega (arith, d, h))
quotient_short (negsuc a) (negsuc b) h = let d = div-le_self (suc a) (suc b) in let e : mag (negsuc a) ≡ a = refl in omega (arith, d, h, e)

remainder_short : (x y : ℤ) → IsSigned x → IsShort (int_rem x y)
remainder_short x y h = let m = mag_rem x y in omega (arith, m, h)

shift_short : (x : ℤ) (k : ℕ) → IsSigned x → IsShort (int_shr x k)
shift_short x k h = let m = mag_shr x (2 ^ k) in omega (arith, m, h)

if_small : (q : Bool) (a b : ℕ) → a < 2 ^ 32 → b < 2 ^ 32 → (if q then a else b) < 2 ^ 32
if_small true a b h k = h
if_small false a b h k = k

-- The operations that compiled code has.
abbrev pub IsUsed : AluOp → Type 0
IsUsed alu.Mulh = ⊥
IsUsed alu.Mulhsu = ⊥
IsUsed alu.Mulhu = ⊥
IsUsed alu.Srl = ⊥
IsUsed alu.Divu = ⊥
IsUsed alu.Remu = ⊥
IsUsed o = Unit {0}

sum_small : (n : ℕ) → n % 2 ^ 32 < 2 ^ 32
sum_small n = omega arith

pub alu_small : (o : AluOp) (a b : ℕ) → IsUsed o → a < 2 ^ 32 → b < 2 ^ 32 → alu_of o a b < 2 ^ 32
unfolding alu_of
alu_small alu.Add a b u h k = sum_small _
alu_small alu.Sub a b u h k = sum_small _
alu_small alu.Sll a b u h k = sum_small _
alu_small alu.Slt a b u h k = flag_small _
alu_small alu.Sltu a b u h k = flag_small _
alu_small alu.Xor a b u h k = xor_of_32 a b h k
alu_small alu.Srl a b u h k = absurd u
alu_small alu.Sra a b u h k = cast_short (int_shr (signed a) (b % 32)) (shift_short (signed a) (b % 32) (signed_short a h))
alu_small alu.Or a b u h k = or_of_32 a b h k
alu_small alu.And a b u h k = let d = and_le_l a b in omega (arith, d)
alu_small alu.Mul a b u h k = sum_small _
alu_small alu.Mulh a b u h k = absurd u
alu_small alu.Mulhsu a b u h k = absurd u
alu_small alu.Mulhu a b u h k = absurd u
alu_small alu.Div a b u h k = if_small (b == 0) (2 ^ 32 - 1) (word_of (int_div (signed a) (signed b))) (omega arith) (cast_short (int_div (signed a) (signed b)) (quotient_short (signed a) (signed b) (signed_short a h)))
alu_small alu.Divu a b u h k = absurd u
alu_small alu.Rem a b u h k = if_small (b == 0) a (word_of (int_rem (signed a) (signed b))) h (cast_short (int_rem (signed a) (signed b)) (remainder_short (signed a) (signed b) (signed_short a h)))
alu_small alu.Remu a b u h k = absurd u
