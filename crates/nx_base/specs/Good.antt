-- When a pointer is good in a view, and the bytes that it leads to.
use Rattle.std.specs.Prelude.{ℕ, zero, suc, ◌+◌, ◌^◌, ◌==◌, Bool, true, false, not, ◌&&◌, ◌||◌, nat_le, if◌then◌else◌, List, [], ◌∷◌, Option, Some, None}
use Rattle.nx_base.specs.declared.access.Access.{Access}
use Rattle.nx_base.specs.declared.access.Access.TheVariants.{Fetch, Load, Store}
use Rattle.nx_base.specs.ByteLists.{from_le}
use Rattle.nx_base.specs.Views.{Window, View, find_bytes}

-- what a window must allow
abbrev pub allows : Access → Window → Bool
allows Fetch w = w.runs
allows Load w = w.reads
allows Store w = w.writes

-- a window in which a pointer of a call may lie: it allows the access, and is no region's
abbrev pub serves : Access → Window → Bool
serves access w = allows access w && not w.region

abbrev pub is_found : Option (List ℕ) → Bool
is_found None = false
is_found (Some bs) = true

-- each of the n bytes at an address lies in a window that may be used so
unfoldable pub all_found : (Window → Bool) → List Window → ℕ → ℕ → Bool
all_found may ws at zero = true
all_found may ws at (suc n) = is_found (find_bytes may ws at 1) && all_found may ws (at + 1) n

-- a buffer is good where it has no byte, or where none of its bytes lies past the last address and each may be used so
unfoldable pub is_good : View → ℕ → ℕ → Access → Bool
is_good v at n access = (n == 0) || (nat_le (at + n) (2 ^ 32) && all_found (serves access) v.windows at n)

abbrev pub number_of_found : Option (List ℕ) → ℕ
number_of_found None = 0
number_of_found (Some bs) = from_le bs

-- the byte that a view shows at an address
unfoldable pub shown_byte : View → ℕ → ℕ
shown_byte v at = number_of_found (find_bytes (λ w. w.reads) v.windows at 1)

-- the n bytes that a view shows from an address on
unfoldable pub shown_bytes : View → ℕ → ℕ → List ℕ
shown_bytes v at zero = []
shown_bytes v at (suc n) = shown_byte v at ∷ shown_bytes v (at + 1) n

abbrev pub with_first : ℕ → Option (List ℕ) → Option (List ℕ)
with_first x None = None
with_first x (Some xs) = Some (x ∷ xs)

-- the bytes of a text, if its zero byte is one of the first n, and it and all before it are good
unfoldable pub good_text : View → ℕ → ℕ → Option (List ℕ)
good_text v at zero = None
good_text v at (suc n) =
    if is_good v at 1 Load then (if shown_byte v at == 0 then Some [] else with_first (shown_byte v at) (good_text v (at + 1) n)) else None
