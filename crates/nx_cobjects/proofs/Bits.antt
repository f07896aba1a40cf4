-- A number of 32 bits.
use Rattle.std.proofs.Common.{◌≡◌, ℕ, ◌%◌, ◌^◌, ◌<◌, arith}

pub word : (n : ℕ) → n < 2 ^ 32 → n ≡ n % 2 ^ 32
word n h = omega arith
