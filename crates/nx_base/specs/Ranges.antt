-- Ranges of addresses, what a view shows in them, and what two views show alike.
use Rattle.std.specs.Prelude.{◌≡◌, ℕ, ◌+◌, ◌-◌, ◌≤◌, ◌<◌, ◌⊎◌, Bool, true, false, List, [], ◌∷◌, length, slice_index}
use Rattle.nx_base.specs.Views.{Window, View, fetch_word}

-- the addresses from one on, up to another that is not among them
pub record Range : Type 0 where
  pub low : ℕ
  pub top : ℕ

-- two ranges share no address
abbrev pub AreDisjoint : Range → Range → Type 0
AreDisjoint r s = (r.top ≤ s.low) ⊎ (s.top ≤ r.low)

-- a range shares no address with any of these
abbrev pub IsClearOf : Range → List Range → Type 0
IsClearOf r [] = Unit {0}
IsClearOf r (s ∷ ss) = AreDisjoint r s × IsClearOf r ss

-- all of these addresses lie in a window that may be read, and written where that is asked, is no
-- region's, and has these bytes there
pub record Here (w : Window) (written : Bool) (low top : ℕ) (b : ℕ → ℕ) : Type 0 where
  pub from : w.start ≤ low
  pub to : top ≤ w.start + length w.bytes
  pub reads : w.reads ≡ true
  pub writes : written ≡ true → w.writes ≡ true
  pub own : w.region ≡ false
  pub bytes : (c : ℕ) → low ≤ c → c < top → slice_index w.bytes (c - w.start) ≡ b c

-- a window has none of these addresses
abbrev pub IsOff : Window → ℕ → ℕ → Type 0
IsOff w low top = (w.start + length w.bytes ≤ low) ⊎ (top ≤ w.start)

-- the first window that has one of these addresses has them all
abbrev pub Lies : List Window → Bool → ℕ → ℕ → (ℕ → ℕ) → Type 0
Lies [] written low top b = ⊥
Lies (w ∷ ws) written low top b = Here w written low top b ⊎ (IsOff w low top × Lies ws written low top b)

-- a view shows these bytes in a range, and lets them be written where that is asked; or the range is empty
abbrev pub Shows : View → Bool → Range → (ℕ → ℕ) → Type 0
Shows v written r b = (r.top ≤ r.low) ⊎ Lies v.windows written r.low r.top b

-- the second view shows in a range what the first shows, and runs there what the first runs
pub record SameIn (r : Range) (v w : View) : Type 0 where
  pub shows : (written : Bool) (b : ℕ → ℕ) → Shows v written r b → Shows w written r b
  pub runs : (at : ℕ) → r.low ≤ at → at + 4 ≤ r.top → fetch_word w at ≡ fetch_word v at

-- the second view differs from the first in these ranges alone
pub record OnlyIn (rs : List Range) (v w : View) : Type 0 where
  pub others : (r : Range) → IsClearOf r rs → SameIn r v w

-- a window without its bytes
pub record Shape : Type 0 where
  pub start : ℕ
  pub size : ℕ
  pub reads : Bool
  pub writes : Bool
  pub runs : Bool
  pub region : Bool

abbrev pub shape_of_window : Window → Shape
shape_of_window w = record { start = w.start; size = length w.bytes; reads = w.reads; writes = w.writes; runs = w.runs; region = w.region }

unfoldable pub shapes : List Window → List Shape
shapes [] = []
shapes (w ∷ ws) = shape_of_window w ∷ shapes ws

-- the windows of a view without their bytes
abbrev pub shape_of : View → List Shape
shape_of v = shapes v.windows
