-- The bits of immediates, both ways.
use Rattle.std.proofs.Common.{◌≡◌, ℕ, ◌+◌, ◌-◌, ◌*◌, ◌/◌, ◌%◌, ◌^◌, ◌<◌, ◌≤◌, refl, arith, w32, ⊎_elim}
use Rattle.std.specs.Prelude.{ℤ, pos, negsuc}
use Rattle.std.specs.Int.{cast_unsigned}
use Rattle.std.proofs.lemmas.Int.{ints, of_z-to_z}
use Rattle.std.proofs.lemmas.Bool.{cases_lt}
use Rattle.std.proofs.lemmas.Bool.Decides.{nat_tests}
use Rattle.nx_rv.specs.Formats.{extended, low_bits, IsWithin}
use Rattle.nx_rv.specs.Table.{HasFiveBits}

-- the bits of a number that was extended
bits_low : (half n : ℕ) → half ≤ 1048576 → n < half → cast_unsigned w32 (extended half n) ≡ n
unfolding extended
bits_low half n h l = grind (arith, nat_tests, of_z-to_z)

bits_high : (half n : ℕ) → half ≤ 1048576 → half ≤ n → n < 2 * half → cast_unsigned w32 (extended half n) ≡ n + (2 ^ 32 - 2 * half)
unfolding extended
bits_high half n h l u = grind (arith, nat_tests, of_z-to_z)

-- 12 bits of I: extended and cut, and back
pub low_extended_12 : (n : ℕ) → n < 4096 → low_bits 4096 (extended 2048 n) ≡ n
unfolding low_bits
low_extended_12 n h =
    ⊎_elim
    (λ l. omega (arith, bits_low 2048 n (omega arith) l))
    (λ l. omega (arith, bits_high 2048 n (omega arith) l (omega arith)))
    (cases_lt n 2048)

pub extended_low_12 : (z : ℤ) → IsWithin 2048 z → extended 2048 (low_bits 4096 z) ≡ z
unfolding low_bits extended
extended_low_12 (pos n) h = grind (arith, nat_tests, ints)
extended_low_12 (negsuc n) h = grind (arith, nat_tests, ints)

-- 13 bits of B
pub low_extended_13 : (n : ℕ) → n < 8192 → low_bits 8192 (extended 4096 n) ≡ n
unfolding low_bits
low_extended_13 n h =
    ⊎_elim
    (λ l. omega (arith, bits_low 4096 n (omega arith) l))
    (λ l. omega (arith, bits_high 4096 n (omega arith) l (omega arith)))
    (cases_lt n 4096)

pub extended_low_13 : (z : ℤ) → IsWithin 4096 z → extended 4096 (low_bits 8192 z) ≡ z
unfolding low_bits extended
extended_low_13 (pos n) h = grind (arith, nat_tests, ints)
extended_low_13 (negsuc n) h = grind (arith, nat_tests, ints)

pub even_extended_13 : (n : ℕ) → n < 8192 → n % 2 ≡ 0 → cast_unsigned w32 (extended 4096 n) % 2 ≡ 0
even_extended_13 n h e =
    ⊎_elim
    (λ l. omega (arith, bits_low 4096 n (omega arith) l))
    (λ l. omega (arith, bits_high 4096 n (omega arith) l (omega arith)))
    (cases_lt n 4096)

-- 21 bits of J
pub low_extended_21 : (n : ℕ) → n < 2097152 → low_bits 2097152 (extended 1048576 n) ≡ n
unfolding low_bits
low_extended_21 n h =
    ⊎_elim
    (λ l. omega (arith, bits_low 1048576 n (omega arith) l))
    (λ l. omega (arith, bits_high 1048576 n (omega arith) l (omega arith)))
    (cases_lt n 1048576)

pub extended_low_21 : (z : ℤ) → IsWithin 1048576 z → extended 1048576 (low_bits 2097152 z) ≡ z
unfolding low_bits extended
extended_low_21 (pos n) h = grind (arith, nat_tests, ints)
extended_low_21 (negsuc n) h = grind (arith, nat_tests, ints)

pub even_extended_21 : (n : ℕ) → n < 2097152 → n % 2 ≡ 0 → cast_unsigned w32 (extended 1048576 n) % 2 ≡ 0
even_extended_21 n h e =
    ⊎_elim
    (λ l. omega (arith, bits_low 1048576 n (omega arith) l))
    (λ l. omega (arith, bits_high 1048576 n (omega arith) l (omega arith)))
    (cases_lt n 1048576)

-- a number that was extended is within its half
pub extended_within : (half n : ℕ) → half ≤ 1048576 → n < 2 * half → IsWithin half (extended half n)
unfolding extended
extended_within half n h l = grind (arith, nat_tests, ints)

-- five bits of a shift
pub five_low : (z : ℤ) → HasFiveBits z → pos (low_bits 32 z) ≡ z
unfolding low_bits
five_low (pos n) h = let e : n % 32 ≡ n = omega arith in rw e refl
five_low (negsuc n) h = absurd h

-- 12, 21 and 13 bits from their places
pub bits_12 : (n : ℕ) → n % 32 + 32 * (n / 32) ≡ n
bits_12 n = omega arith

pub bits_21 : (n : ℕ) → n < 2097152 → n % 2 ≡ 0 → 2 * ((2 * (n / 2 % 16) + n / 2048 % 2) / 2 + 16 * ((n / 32 % 64 + 64 * (n / 1048576)) % 64)) + 2048 * ((2 * (n / 2 % 16) + n / 2048 % 2) % 2) + 4096 * (n / 4096 % 8 + 8 * (n / 4096 / 8 % 32)) + 1048576 * ((n / 32 % 64 + 64 * (n / 1048576)) / 64) ≡ n
bits_21 n h e = omega arith

pub bits_13 : (n : ℕ) → n < 8192 → n % 2 ≡ 0 → 2 * ((2 * (n / 2 % 16) + n / 2048 % 2) / 2) + 32 * ((n / 32 % 64 + 64 * (n / 4096)) % 64) + 2048 * ((2 * (n / 2 % 16) + n / 2048 % 2) % 2) + 4096 * ((n / 32 % 64 + 64 * (n / 4096)) / 64) ≡ n
bits_13 n h e = omega arith

pub places_13 : (rd f7 n : ℕ) → rd < 32 → f7 < 128 → n ≡ 2 * (rd / 2) + 32 * (f7 % 64) + 2048 * (rd % 2) + 4096 * (f7 / 64) → (n < 8192) × (n % 2 ≡ 0) × (2 * (n / 2 % 16) + n / 2048 % 2 ≡ rd) × (n / 32 % 64 + 64 * (n / 4096) ≡ f7)
places_13 rd f7 n a b e = (omega arith, omega arith, omega arith, omega arith)

-- and the places of 21 bits
pub places_21 : (f3 rs1 rs2 f7 n : ℕ) → f3 < 8 → rs1 < 32 → rs2 < 32 → f7 < 128 → n ≡ 2 * (rs2 / 2 + 16 * (f7 % 64)) + 2048 * (rs2 % 2) + 4096 * (f3 + 8 * rs1) + 1048576 * (f7 / 64) → (n < 2097152) × (n % 2 ≡ 0) × (n / 4096 % 8 ≡ f3) × (n / 4096 / 8 % 32 ≡ rs1) × (2 * (n / 2 % 16) + n / 2048 % 2 ≡ rs2) × (n / 32 % 64 + 64 * (n / 1048576) ≡ f7)
places_21 f3 rs1 rs2 f7 n a b c d e = (omega arith, omega arith, omega arith, omega arith, omega arith, omega arith)

pub low_even_21 : (z : ℤ) → cast_unsigned w32 z % 2 ≡ 0 → low_bits 2097152 z % 2 ≡ 0
unfolding low_bits
low_even_21 z e = omega arith

pub low_even_13 : (z : ℤ) → cast_unsigned w32 z % 2 ≡ 0 → low_bits 8192 z % 2 ≡ 0
unfolding low_bits
low_even_13 z e = omega arith

pub low_below : (m : ℕ) (z : ℤ) → 0 < m → low_bits m z < m
unfolding low_bits
low_below m z h = omega arith
