-- The windows of a group: whole pages of its text, its data and its stacks.
use Rattle.std.specs.Prelude.{◌≡◌, ℕ, ◌+◌, ◌*◌, ◌/◌, ◌%◌, ◌<◌, ◌≤◌, ◌⊎◌, Bool, true, false, not, ◌&&◌, nat_le, if◌then◌else◌, List, [], ◌∷◌, ◌++◌, length, Option, Some, None}
use Rattle.nx_space.specs.World.{Own, Part, MemoryMap}
use Rattle.nx_space.specs.Starts.{program_at, stack_low, pages_of}
use Rattle.nx_tables.specs.Maps.{Maps, satp_of}
use Rattle.nx_tables.specs.ViewBytes.{seen, IsMapped}

-- a window of whole pages, which may be written, or else run
pub record Span : Type 0 where
  pub start : ℕ
  pub bytes : ℕ
  pub writes : Bool

-- a fact of each
abbrev pub Each : {X : Type 0} → (X → Type 0) → List X → Type 0
Each P [] = Unit {0}
Each P (x ∷ xs) = P x × Each P xs

-- no window where there are no bytes
abbrev pub span_of : ℕ → Bool → List ℕ → List Span
span_of at writes [] = []
span_of at writes (b ∷ bytes) = record { start = at; bytes = 4096 * pages_of (length (b ∷ bytes)); writes = writes } ∷ []

abbrev pub stack_span : MemoryMap → ℕ → Span
stack_span memory_map slot = record { start = stack_low memory_map slot; bytes = 4096 * pages_of memory_map.stack; writes = true }

abbrev pub stack_spans : MemoryMap → List ℕ → List Span
stack_spans memory_map [] = []
stack_spans memory_map (slot ∷ slots) = stack_span memory_map slot ∷ stack_spans memory_map slots

-- the windows of a program with the stacks of these slots
abbrev pub spans_of : MemoryMap → ℕ → List ℕ → List Span
spans_of memory_map place slots =
    let p = program_at memory_map place in
    span_of p.text_at false p.text ++ (span_of p.data_at true p.init ++ stack_spans memory_map slots)

-- the k-th window of a group shows the k-th bytes of its own
abbrev pub part_of : ℕ → Span → Part
part_of k s = record { start = s.start; reads = true; writes = s.writes; runs = not s.writes; region = false; home = Own k; from = 0; bytes = s.bytes }

unfoldable pub parts_from : ℕ → List Span → List Part
parts_from k [] = []
parts_from k (s ∷ ss) = part_of k s ∷ parts_from (k + 1) ss

-- a window's bytes, as the walk from a root shows them
abbrev pub span_bytes : List ℕ → ℕ → Span → List ℕ
span_bytes ram root s = seen ram (satp_of root) s.start s.bytes

abbrev pub covers : Span → ℕ → Bool
covers s at = nat_le s.start at && nat_le (at + 1) (s.start + s.bytes)

-- a window and its place among others
pub record Hit : Type 0 where
  pub index : ℕ
  pub span : Span

-- the first window with an address, where places count from k on
unfoldable pub first_span : ℕ → List Span → ℕ → Option Hit
first_span k [] at = None
first_span k (s ∷ ss) at = if covers s at then Some (record { index = k; span = s }) else first_span (k + 1) ss at

-- a window is of whole pages, and ends at 2^32 at the latest
pub record IsSpan (s : Span) : Type 0 where
  pub start : s.start % 4096 ≡ 0
  pub bytes : s.bytes % 4096 ≡ 0
  pub top : s.start + s.bytes ≤ 4294967296

abbrev pub IsApart : Span → Span → Type 0
IsApart s t = (s.start + s.bytes ≤ t.start) ⊎ (t.start + t.bytes ≤ s.start)

abbrev pub AreApart : List Span → Type 0
AreApart [] = Unit {0}
AreApart (s ∷ ss) = Each (IsApart s) ss × AreApart ss

-- the tables map each page of the windows, and no other
pub record Shows (m : Maps) (spans : List Span) : Type 0 where
  pub fine : Each IsSpan spans
  pub apart : AreApart spans
  pub mapped : Each (λ s. IsMapped m s.start s.bytes s.writes) spans
  pub others : (at : ℕ) → at < 4294967296 → first_span 0 spans at ≡ None → m.pages (at / 4096) ≡ None
