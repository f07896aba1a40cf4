-- All views of a space over its bytes, so that what two views share stands once.
use Rattle.std.specs.Prelude.{◌≡◌, ℕ, ◌==◌, Bool, true, false, ◌||◌, if◌then◌else◌, List, [], ◌∷◌, take, drop, map, slice_index_or}
use Rattle.nx_base.specs.Views.{Window, View}
use Rattle.nx_ram.specs.declared.prog_image.ProgImage.{ProgImage}

-- the bytes that a window shows: the k-th of those that groups share, or the k-th of its group's own
pub data Home : Type 0 where
  Common : (k : ℕ) → Home
  Own : (k : ℕ) → Home

-- a window of a view: some bytes from a place on, what may be done with them, and whether they are a region's
pub record Part : Type 0 where
  pub start : ℕ
  pub reads : Bool
  pub writes : Bool
  pub runs : Bool
  pub region : Bool
  pub home : Home
  pub from : ℕ
  pub bytes : ℕ

-- a group that has a view: its number, its program's place, the slot of its main thread, its windows,
-- the bytes of its own, and the slots whose stacks are among these
pub record Group : Type 0 where
  pub number : ℕ
  pub program : ℕ
  pub slot : ℕ
  pub parts : List Part
  pub own : List (List ℕ)
  pub slots : List ℕ

-- what stays from boot on: the programs, the address of slot 0's stack, the bytes of a stack, the bytes
-- from one slot's stack to the next, the limit of threads, whether refusals are page faults, the windows
-- of every group of a space without pages, the bytes of the kernel's pool, and the page frames in all
pub record MemoryMap : Type 0 where
  pub programs : List ProgImage
  pub stacks_at : ℕ
  pub stack : ℕ
  pub stride : ℕ
  pub threads : ℕ
  pub is_paged : Bool
  pub shared : List Part
  pub pool : ℕ
  pub frames : ℕ

-- the bytes that groups share, the groups in the order of their starts, the group that was entered last,
-- and the bytes of the RAM that no window and no pool has
pub record World : Type 0 where
  pub memory_map : MemoryMap
  pub common : List (List ℕ)
  pub groups : List Group
  pub entered : ℕ
  pub outside : List ℕ

-- whether a group has a view
unfoldable pub has_view : List Group → ℕ → Bool
has_view [] number = false
has_view (g ∷ gs) number = (g.number == number) || has_view gs number

-- the group that was entered last has a view
abbrev pub IsEntered : World → Type 0
IsEntered w = has_view w.groups w.entered ≡ true

-- stands for a group that there is not
abbrev pub no_group : Group
no_group = record { number = 0; program = 0; slot = 0; parts = []; own = []; slots = [] }

-- the group of a number
unfoldable pub group_of : List Group → ℕ → Group
group_of [] number = no_group
group_of (g ∷ gs) number = if g.number == number then g else group_of gs number

abbrev pub group_in : World → Group
group_in w = group_of w.groups w.entered

-- the bytes at a place of a list, none where there is no such place
abbrev pub bytes_in : List (List ℕ) → ℕ → List ℕ
bytes_in bs k = slice_index_or bs k []

-- the bytes that a window shows a part of
abbrev pub bytes_of : List (List ℕ) → List (List ℕ) → Home → List ℕ
bytes_of common own (Common k) = bytes_in common k
bytes_of common own (Own k) = bytes_in own k

-- the bytes that a group's windows show
abbrev pub seen_by : World → ℕ → Home → List ℕ
seen_by w number = bytes_of w.common (group_of w.groups number).own

abbrev pub window_of : (Home → List ℕ) → Part → Window
window_of bytes p = record {
  start = p.start;
  reads = p.reads;
  writes = p.writes;
  runs = p.runs;
  region = p.region;
  bytes = take p.bytes (drop p.from (bytes p.home));
}

-- a group's view as plain data
abbrev pub view_of : World → ℕ → View
view_of w number = record { windows = map (window_of (seen_by w number)) (group_of w.groups number).parts; is_paged = w.memory_map.is_paged }

-- the view that was entered last
abbrev pub view_in : World → View
view_in w = view_of w w.entered

-- the kernel's pool, which stands first of the bytes that groups share
abbrev pub pool_of : World → List ℕ
pool_of w = take w.memory_map.pool (bytes_in w.common 0)
