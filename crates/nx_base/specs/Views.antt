-- What a program can read, write and run, as plain data.
use Rattle.std.specs.Prelude.{ℕ, ◌+◌, ◌-◌, ◌≤◌, ◌⊎◌, Bool, ◌&&◌, nat_le, if◌then◌else◌, List, [], ◌∷◌, length, Option, Some, None, Result, Ok, Err}
use Rattle.nx_base.specs.ByteLists.{get_bytes, put_bytes, from_le, to_le}

-- bytes from an address on, what may be done with them, and whether they are a region's, which groups share
pub record Window : Type 0 where
  pub start : ℕ
  pub reads : Bool
  pub writes : Bool
  pub runs : Bool
  pub region : Bool
  pub bytes : List ℕ

-- a view is its windows; where it is paged, what it refuses is a page fault
pub record View : Type 0 where
  pub windows : List Window
  pub is_paged : Bool

-- the n bytes at an address lie in the window
unfoldable pub holds : Window → ℕ → ℕ → Bool
holds w at n = nat_le w.start at && nat_le (at + n) (w.start + length w.bytes)

-- the n bytes at an address, if the first window that holds them may be used so
unfoldable pub find_bytes : (Window → Bool) → List Window → ℕ → ℕ → Option (List ℕ)
find_bytes may [] at n = None
find_bytes may (w ∷ ws) at n =
    if holds w at n then (if may w then Some (get_bytes w.bytes (at - w.start) n) else None) else find_bytes may ws at n

-- a number from its bytes, or a cause
abbrev pub number_or : Option (List ℕ) → ℕ → Result ℕ ℕ
number_or None cause = Err cause
number_or (Some bs) cause = Ok (from_le bs)

-- the word to run at an address, or the cause of a trap: 1 access fault, 12 page fault
unfoldable pub fetch_word : View → ℕ → Result ℕ ℕ
fetch_word v at = number_or (find_bytes (λ w. w.runs) v.windows at 4) (if v.is_paged then 12 else 1)

-- the number of n bytes at an address, or the cause of a trap: 5 access fault, 13 page fault
unfoldable pub load_bytes : View → ℕ → ℕ → Result ℕ ℕ
load_bytes v at n = number_or (find_bytes (λ w. w.reads) v.windows at n) (if v.is_paged then 13 else 5)

abbrev pub and_before : Window → Option (List Window) → Option (List Window)
and_before w None = None
and_before w (Some ws) = Some (w ∷ ws)

-- the windows with bytes put at an address, if the first that holds them may be written
unfoldable pub put_in : List Window → ℕ → List ℕ → Option (List Window)
put_in [] at xs = None
put_in (w ∷ ws) at xs =
    if holds w at (length xs)
    then (if w.writes then Some (record w { bytes = put_bytes w.bytes (at - w.start) xs } ∷ ws) else None)
    else and_before w (put_in ws at xs)

-- a view with other windows, or a cause
abbrev pub view_or : View → Option (List Window) → ℕ → Result View ℕ
view_or v None cause = Err cause
view_or v (Some ws) cause = Ok (record v { windows = ws })

-- the view with the low n bytes of a number put at an address, or the cause of a trap: 7 access fault, 15 page fault
unfoldable pub store_bytes : View → ℕ → ℕ → ℕ → Result View ℕ
store_bytes v at n x = view_or v (put_in v.windows at (to_le n x)) (if v.is_paged then 15 else 7)

-- the n bytes at one address and the m at another share none
abbrev pub AreApart : ℕ → ℕ → ℕ → ℕ → Type 0
AreApart a n b m = (b + m ≤ a) ⊎ (a + n ≤ b)
