-- Where a program's words and globals stand, and what a view shows of them.
use Rattle.std.specs.Prelude.{◌≡◌, ℕ, zero, suc, ◌+◌, ◌≤◌, ◌<◌, true, false, List, [], ◌∷◌, Ok}
use Rattle.nx_base.specs.declared.regs.Regs.{Regs}
use Rattle.nx_base.specs.ByteLists.{from_le}
use Rattle.nx_base.specs.Views.{View, fetch_word}
use Rattle.nx_base.specs.Ranges.{Range, Shows, SameIn}
use Rattle.nx_base.specs.Calls.{Call, Rows}

-- The n bytes from an address on.
unfoldable pub bytes_at : (ℕ → ℕ) → ℕ → ℕ → List ℕ
bytes_at b at zero = []
bytes_at b at (suc n) = b at ∷ bytes_at b (at + 1) n

-- The number of the n bytes at an address, the lowest first.
unfoldable pub number_at : (ℕ → ℕ) → ℕ → ℕ → ℕ
number_at b at n = from_le (bytes_at b at n)

-- The places of a program, of its globals and of each slot's stack; when bytes hold globals; and how a thread begins.
pub record Home (G : Type 0) : Type 1 where
  pub rows : Rows
  pub text : Range
  pub text_bytes : ℕ → ℕ
  pub globals : Range
  pub Holds : G → (ℕ → ℕ) → Type 0
  pub slots : ℕ
  pub stack : ℕ → Range
  pub main_regs : ℕ → Regs
  pub thread_regs : ℕ → Call → Regs
  pub SameEntry : Call → Call → Type 0

module _ {G : Type 0} (h : Home G) where
  -- The words and texts stand in the text, to be read and run.
  pub record HasText (v : View) : Type 0 where
    pub reads : Shows v false h.text h.text_bytes
    pub runs : (at : ℕ) → h.text.low ≤ at → at + 4 ≤ h.text.top → fetch_word v at ≡ Ok (number_at h.text_bytes at 4)

  -- The view shows bytes that hold these globals.
  pub record Alike (g : G) (v : View) : Type 0 where
    pub bytes : ℕ → ℕ
    pub shows : Shows v true h.globals bytes
    pub small : (a : ℕ) → bytes a < 256
    pub holds : h.Holds g bytes

  abbrev pub IsZeroed : ℕ → View → Type 0
  IsZeroed slot v = Shows v true (h.stack slot) (λ a. 0)

  -- What is a thread's alone, and the text: others leave them while it waits.
  pub record SameOwn (slot : ℕ) (v w : View) : Type 0 where
    pub text : SameIn h.text v w
    pub stack : SameIn (h.stack slot) v w
