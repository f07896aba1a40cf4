-- Bytes of memory as a function from addresses, and what a list of windows shows of them.
use Rattle.std.specs.Prelude.{ℕ, zero, suc, ◌+◌, ◌≤◌, ◌⊎◌, ◌==◌, if◌then◌else◌, Bool, List, [], ◌∷◌}
use Rattle.nx_base.specs.ByteLists.{from_le, to_le}
use Rattle.nx_base.specs.Views.{Window}
use Rattle.nx_base.specs.Ranges.{Lies}

abbrev pub Bytes : Type 0
Bytes = ℕ → ℕ

-- The part lies in the windows, or it has no byte.
abbrev pub Part : List Window → Bool → ℕ → ℕ → Bytes → Type 0
Part ws written low top b = (top ≤ low) ⊎ Lies ws written low top b

-- So many bytes from an address on.
unfoldable pub bytes_at : Bytes → ℕ → ℕ → List ℕ
bytes_at b a zero = []
bytes_at b a (suc n) = b a ∷ bytes_at b (a + 1) n

-- A function with another value at one place.
abbrev pub put : (ℕ → ℕ) → ℕ → ℕ → ℕ → ℕ
put t k n j = if j == k then n else t j

-- Other bytes from an address on.
unfoldable pub with_bytes : Bytes → ℕ → List ℕ → Bytes
with_bytes b a [] = b
with_bytes b a (x ∷ xs) = with_bytes (put b a x) (a + 1) xs

-- The number of so many bytes at an address, the lowest first; and another number there.
unfoldable pub number_at : Bytes → ℕ → ℕ → ℕ
number_at b a n = from_le (bytes_at b a n)

unfoldable pub with_number : Bytes → ℕ → ℕ → ℕ → Bytes
with_number b a n x = with_bytes b a (to_le n x)
