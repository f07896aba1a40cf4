-- A program whose windows are mapped, in frames that nobody had.
use Rattle.std.specs.Prelude.{◌≡◌, ◌≢◌, ℕ, ◌+◌, ◌*◌, ◌/◌, ◌%◌, ◌<◌, ◌≤◌, ◌==◌, Bool, true, false, List, [], ◌∷◌, ◌++◌, length, slice_index, replicate, None}
use Rattle.std.specs.List.{list_any}
use Rattle.std.specs.Option.{is_some}
use Rattle.nx_ram.specs.declared.prog_image.ProgImage.{ProgImage}
use Rattle.nx_frames.specs.Chains.{AreOnce}
use Rattle.nx_sv32.specs.Walk.{ram_start}
use Rattle.nx_tables.specs.Maps.{Maps, satp_of}
use Rattle.nx_tables.specs.Roles.{Role, Free, is_of, Stands}
use Rattle.nx_tables.specs.ViewBytes.{seen, IsMapped}
use Rattle.nx_space.specs.Starts.{pages_of, different, paged}
use Rattle.nx_paged.specs.Spans.{Span, Each, span_of, first_span}
use Rattle.nx_paged.specs.Paging.{IsLaidOut, FrameAt}
use Rattle.nx_paged.specs.Building.{Entry, entries_from, regions_of, IsFresh}

-- the pages of bytes at an address
abbrev pub entries_at : ℕ → ℕ → Bool → List Entry
entries_at at n writes = entries_from (at / 4096) (pages_of n) writes

-- the pages of a program with one stack
abbrev pub program_entries : ProgImage → ℕ → ℕ → List Entry
program_entries p low stack = entries_at p.text_at (length p.text) false ++ (entries_at p.data_at (length p.init) true ++ (entries_at low stack true ++ []))

abbrev pub program_spans : ProgImage → ℕ → ℕ → List Span
program_spans p low stack = span_of p.text_at false p.text ++ (span_of p.data_at true p.init ++ (record { start = low; bytes = 4096 * pages_of stack; writes = true } ∷ []))

-- the frames were nobody's, are zeros, and suffice; the program and the stack lie where they should
pub record CanStart (old : List ℕ) (frames : List ℕ) (root : ℕ) (p : ProgImage) (low stack : ℕ) (before : ℕ → Role) : Type 0 where
  pub free : Each (FrameAt (λ r. r ≡ Free) before) frames
  pub fresh : Each (IsFresh old) frames
  pub once : AreOnce frames
  pub root_is : slice_index frames 0 ≡ ram_start + 4096 * root
  pub enough : 1 + (length (program_entries p low stack) + different (regions_of (program_entries p low stack))) ≡ length frames
  pub fits : ram_start + length old ≤ 4294967296
  pub laid_out : IsLaidOut p
  pub low_is : 0x40000000 ≤ low
  pub whole : low % 4096 ≡ 0
  pub stack_whole : stack % 4096 ≡ 0
  pub high_is : low + stack ≤ 0x48000000

pub record Startable (old : List ℕ) (frames : List ℕ) (root : ℕ) (p : ProgImage) (low stack : ℕ) : Type 0 where
  pub before : ℕ → Role
  pub can : CanStart old frames root p low stack before

-- the group's tables stand and map the windows, which show the program's bytes and zeros
pub record IsMappedIn (old new : List ℕ) (frames : List ℕ) (root : ℕ) (p : ProgImage) (low stack : ℕ) (before : ℕ → Role) (g : ℕ) : Type 0 where
  pub roles : ℕ → Role
  pub maps : Maps
  pub maps_root : maps.root ≡ root
  pub stands : Stands new roles g maps
  pub mapped : Each (λ s. IsMapped maps s.start s.bytes s.writes) (program_spans p low stack)
  pub others : (at : ℕ) → at < 4294967296 → first_span 0 (program_spans p low stack) at ≡ None → maps.pages (at / 4096) ≡ None
  pub tables : (i : ℕ) → i < 1024 → is_some (maps.tables i) ≡ list_any (λ m. m == i) (regions_of (program_entries p low stack))
  pub taken : Each (FrameAt (λ r. is_of g r ≡ true) roles) frames
  pub elsewhere : (f : ℕ) → Each (λ a. a ≢ ram_start + 4096 * f) frames → roles f ≡ before f
  pub kept : (f k : ℕ) → is_of g (roles f) ≡ false → k < 4096 → slice_index new (4096 * f + k) ≡ slice_index old (4096 * f + k)
  pub long : length new ≡ length old
  pub text : seen new (satp_of root) p.text_at (4096 * pages_of (length p.text)) ≡ paged p.text
  pub contents : seen new (satp_of root) p.data_at (4096 * pages_of (length p.init)) ≡ paged p.init
  pub zeros : seen new (satp_of root) low (4096 * pages_of stack) ≡ replicate (4096 * pages_of stack) 0

-- whatever group it is
abbrev pub MapsAll : List ℕ → List ℕ → List ℕ → ℕ → ProgImage → ℕ → ℕ → Type 0
MapsAll old new frames root p low stack =
    (before : ℕ → Role) (g : ℕ) → CanStart old frames root p low stack before → IsMappedIn old new frames root p low stack before g
