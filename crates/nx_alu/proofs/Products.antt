-- A product of two words has 64 bits.
use Rattle.std.proofs.Common.{◌≤◌, ◌^◌, ◌*ℤ◌, w32, w64, FitsSigned, arith}
use Rattle.std.specs.Prelude.{ℤ, pos, negsuc, unsigned_abs}
use Rattle.std.proofs.lemmas.Int.{fits_signed_mul}

abs_small : (a : ℤ) → FitsSigned w32 a → unsigned_abs a ≤ 2 ^ 31
abs_small (pos n) h = let s = h.sfits in omega arith
abs_small (negsuc n) h = let s = h.sfits in omega arith

pub product_fits : (a b : ℤ) → FitsSigned w32 a → FitsSigned w32 b → FitsSigned w64 (a *ℤ b)
product_fits a b f g = fits_signed_mul w64 a b (2 ^ 31) (2 ^ 31) (abs_small a f) (abs_small b g) (omega arith)
