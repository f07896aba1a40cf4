-- What a thread of a program may read, write and run, and what a view shows of it.
use Rattle.std.specs.Prelude.{◌≡◌, ℕ, ◌+◌, ◌*◌, ◌%◌, ◌^◌, ◌<◌, ◌≤◌, ◌⊎◌, Bool, true, false, List, [], ◌∷◌, length, Ok}
use Rattle.nx_base.specs.Views.{View, fetch_word}
use Rattle.nx_rv.specs.declared.inst.Inst.{Inst}
use Rattle.nx_rv.specs.Table.{encode_of, IsInRange}
use Rattle.nx_shown.specs.Bytes.{Bytes, Part}

-- Instructions at an address.
pub record Piece : Type 0 where
  pub at : ℕ
  pub insts : List Inst

-- A thread's stack, its program's data and literals, and the pieces of its text.
pub record Place : Type 0 where
  pub low : ℕ
  pub top : ℕ
  pub data_low : ℕ
  pub data_top : ℕ
  pub fixed_low : ℕ
  pub fixed_top : ℕ
  pub pieces : List Piece

-- The words of instructions stand from an address on, may be run, and their fields fit.
abbrev pub AreHere : View → ℕ → List Inst → Type 0
AreHere v at [] = Unit {0}
AreHere v at (i ∷ is) = ((fetch_word v at ≡ Ok (encode_of i)) × IsInRange i) × AreHere v (at + 4) is

abbrev pub HasText : View → List Piece → Type 0
HasText v [] = Unit {0}
HasText v (p ∷ ps) = AreHere v p.at p.insts × HasText v ps

-- No piece has a byte from low to top.
abbrev pub AreOff : List Piece → ℕ → ℕ → Type 0
AreOff [] low top = Unit {0}
AreOff (p ∷ ps) low top = ((p.at + 4 * length p.insts ≤ low) ⊎ (top ≤ p.at)) × AreOff ps low top

-- Two parts share no byte.
abbrev pub ShareNone : ℕ → ℕ → ℕ → ℕ → Type 0
ShareNone low top from to = (a : ℕ) → low ≤ a → a < top → from ≤ a → a < to → ⊥

-- A place as a link lays it out. A frame below the stack's lowest address doesn't wrap.
pub record IsPlace (e : Place) : Type 0 where
  pub low_aligned : e.low % 16 ≡ 0
  pub top_aligned : e.top % 16 ≡ 0
  pub ordered : e.low ≤ e.top
  pub fits : e.top < 2 ^ 32
  pub high : 2 ^ 21 ≤ e.low
  pub data_fits : e.data_top ≤ 2 ^ 32
  pub fixed_fits : e.fixed_top ≤ 2 ^ 32
  pub stack_off : AreOff e.pieces e.low e.top
  pub data_off : AreOff e.pieces e.data_low e.data_top
  pub stack_data : ShareNone e.low e.top e.data_low e.data_top
  pub stack_fixed : ShareNone e.low e.top e.fixed_low e.fixed_top
  pub data_fixed : ShareNone e.data_low e.data_top e.fixed_low e.fixed_top

-- A view shows these bytes in the parts of a place, and has its text.
pub record Sees (e : Place) (v : View) (b : Bytes) : Type 0 where
  pub stack : Part v.windows true e.low e.top b
  pub globals : Part v.windows true e.data_low e.data_top b
  pub literals : Part v.windows false e.fixed_low e.fixed_top b
  pub text : HasText v e.pieces
  pub small : (a : ℕ) → b a < 256

-- Bytes that the thread may write, and bytes that it may read.
abbrev pub MayWrite : Place → ℕ → ℕ → Type 0
MayWrite e a n = ((e.low ≤ a) × (a + n ≤ e.top)) ⊎ ((e.data_low ≤ a) × (a + n ≤ e.data_top))

abbrev pub MayRead : Place → ℕ → ℕ → Type 0
MayRead e a n = MayWrite e a n ⊎ ((e.fixed_low ≤ a) × (a + n ≤ e.fixed_top))

-- A part with no byte of the stack and of the data.
abbrev pub IsElsewhere : Place → ℕ → ℕ → Type 0
IsElsewhere e low top = ((top ≤ e.low) ⊎ (e.top ≤ low)) × ((top ≤ e.data_low) ⊎ (e.data_top ≤ low))

-- Nothing has changed outside the stack and the data: each such part shows the bytes that it showed, and each such word
-- runs as before.
pub record Only (e : Place) (v w : View) : Type 0 where
  pub shows : (written : Bool) (low top : ℕ) (b : Bytes) → IsElsewhere e low top → Part v.windows written low top b → Part w.windows written low top b
  pub runs : (at : ℕ) → IsElsewhere e at (at + 4) → fetch_word w at ≡ fetch_word v at
