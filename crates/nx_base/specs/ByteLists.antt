-- Numbers as bytes, the lowest first, and several bytes at a place of a list.
use Rattle.std.specs.Prelude.{ℕ, zero, suc, ◌<◌, ◌+◌, ◌*◌, ◌/◌, ◌%◌, List, [], ◌∷◌, ◌++◌, length, take, drop, slice_index}

-- the n bytes of a number, the lowest first
unfoldable pub to_le : ℕ → ℕ → List ℕ
to_le zero x = []
to_le (suc n) x = (x % 256) ∷ to_le n (x / 256)

-- the number of these bytes, the lowest first
unfoldable pub from_le : List ℕ → ℕ
from_le [] = 0
from_le (b ∷ bs) = b + 256 * from_le bs

-- n bytes from a place on
unfoldable pub get_bytes : List ℕ → ℕ → ℕ → List ℕ
get_bytes bs at zero = []
get_bytes bs at (suc n) = slice_index bs at ∷ get_bytes bs (at + 1) n

-- the bytes with others put from a place on, where these fit
unfoldable pub put_bytes : List ℕ → ℕ → List ℕ → List ℕ
put_bytes bs at xs = take at bs ++ xs ++ drop (at + length xs) bs

-- numbers below 256
abbrev pub AreBytes : List ℕ → Type 0
AreBytes bs = (i : ℕ) → slice_index bs i < 256
