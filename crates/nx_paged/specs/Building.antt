-- How a group's tables come to map pages, each in a frame that nobody had.
use Rattle.std.specs.Prelude.{◌≡◌, ◌≢◌, ℕ, zero, suc, ◌+◌, ◌-◌, ◌*◌, ◌/◌, ◌<◌, ◌≤◌, ◌==◌, Bool, true, false, if◌then◌else◌, List, [], ◌∷◌, ◌++◌, length, map, take, drop, Option, Some, None, slice_index}
use Rattle.std.specs.List.{list_any}
use Rattle.std.specs.Option.{is_some}
use Rattle.nx_frames.specs.Chains.{AreOnce}
use Rattle.nx_sv32.specs.Walk.{ram_start}
use Rattle.nx_tables.specs.Maps.{Page, Maps}
use Rattle.nx_tables.specs.Roles.{Role, Free, is_table, is_of, IsZeroed, Stands}
use Rattle.nx_space.specs.Starts.{different}
use Rattle.nx_paged.specs.Spans.{Each}
use Rattle.nx_paged.specs.Paging.{FrameAt}

-- a page that is mapped, and whether it may be written; else it may be run
pub record Entry : Type 0 where
  pub page : ℕ
  pub writes : Bool

-- n pages, from one on
abbrev pub entries_from : ℕ → ℕ → Bool → List Entry
entries_from first zero writes = []
entries_from first (suc n) writes = record { page = first; writes = writes } ∷ entries_from (first + 1) n writes

-- the regions of 4 MiB of these pages
abbrev pub regions_of : List Entry → List ℕ
regions_of es = map (λ e. e.page / 1024) es

-- what may be done with a page
unfoldable pub look : List Entry → ℕ → Option Bool
look [] v = None
look (e ∷ es) v = if v == e.page then Some e.writes else look es v

abbrev pub right_of : Option Page → Option Bool
right_of None = None
right_of (Some p) = Some p.writes

-- a frame of zeros that lies in the RAM
pub record IsFresh (ram : List ℕ) (a : ℕ) : Type 0 where
  pub zero : (k : ℕ) → k < 4096 → slice_index ram (a - ram_start + k) ≡ 0
  pub inside : a + 4096 ≤ ram_start + length ram

-- what stays while pages are added: the frames that were taken, the group and its root's frame, the RAM and
-- the roles before, how many of the group's frames were no pages, and the maps that it had
pub record Site : Type 0 where
  pub frames : List ℕ
  pub group : ℕ
  pub root : ℕ
  pub old : List ℕ
  pub before : ℕ → Role
  pub base : ℕ
  pub first : Maps

-- some frames are used, and the tables map what there was and what was added
pub record Building (s : Site) (regions : List ℕ) (added : List Entry) (ram : List ℕ) (used : ℕ) : Type 0 where
  pub roles : ℕ → Role
  pub maps : Maps
  pub root_is : maps.root ≡ s.root
  pub stands : Stands ram roles s.group maps
  pub long : length ram ≡ length s.old
  pub kept : (f k : ℕ) → is_table s.group (roles f) ≡ false → k < 4096 → slice_index ram (4096 * f + k) ≡ slice_index s.old (4096 * f + k)
  pub once : AreOnce s.frames
  pub fresh : Each (IsFresh s.old) s.frames
  pub unused : Each (FrameAt (λ r. r ≡ Free) roles) (drop used s.frames)
  pub taken : Each (FrameAt (λ r. is_of s.group r ≡ true) roles) (take used s.frames)
  pub elsewhere : (f : ℕ) → Each (λ a. a ≢ ram_start + 4096 * f) (take used s.frames) → roles f ≡ s.before f
  pub few : used ≤ length s.frames
  pub count : used + s.base ≡ 1 + (length added + different regions)
  pub tables : (i : ℕ) → i < 1024 → is_some (maps.tables i) ≡ list_any (λ m. m == i) regions
  pub pages : (v : ℕ) → is_some (look added v) ≡ true → right_of (maps.pages v) ≡ look added v
  pub zeroed : (v : ℕ) (p : Page) → is_some (look added v) ≡ true → maps.pages v ≡ Some p → IsZeroed ram p.frame
  pub others : (v : ℕ) → look added v ≡ None → maps.pages v ≡ s.first.pages v

-- there are frames for so many pages more, in these regions more
pub record HasRoom (frames : List ℕ) (root : ℕ) (more : List ℕ) (n : ℕ) (ram : List ℕ) (used : ℕ) : Type 0 where
  pub site : Site
  pub frames_is : site.frames ≡ frames
  pub root_is : site.root ≡ root
  pub regions : List ℕ
  pub added : List Entry
  pub building : Building site regions added ram used
  pub room : 1 + (n + length added + different (more ++ regions)) ≤ site.base + length frames

-- these regions get a table each and these pages are added, whatever there was
abbrev pub Adds : List ℕ → ℕ → List ℕ → List Entry → List ℕ → ℕ → List ℕ → ℕ → Type 0
Adds frames root more entries ram used new after =
    (site : Site) (regions : List ℕ) (added : List Entry) → site.frames ≡ frames → site.root ≡ root → Building site regions added ram used
    → Building site (more ++ regions) (entries ++ added) new after
