-- What the page tables in a RAM map, and that the RAM says exactly that. Frames have 4,096 bytes and count from the RAM's start.
use Rattle.std.specs.Prelude.{◌≡◌, ℕ, ◌+◌, ◌-◌, ◌*◌, ◌/◌, ◌%◌, ◌<◌, ◌≤◌, ◌==◌, Bool, true, not, if◌then◌else◌, List, Option, Some, None}
use Rattle.nx_base.specs.declared.access.Access.{Access}
use Rattle.nx_base.specs.declared.access.Access.TheVariants.{Fetch, Load, Store}
use Rattle.nx_sv32.specs.Walk.{ram_start, entry_at}

-- a page's frame, and whether it may be written; else it may be run
pub record Page : Type 0 where
  pub frame : ℕ
  pub writes : Bool

-- the root's frame, the frame of the table of each region of 4 MiB, and each page that is mapped
pub record Maps : Type 0 where
  pub root : ℕ
  pub tables : ℕ → Option ℕ
  pub pages : ℕ → Option Page

-- the page number of a frame
abbrev pub page_of : ℕ → ℕ
page_of frame = 524288 + frame

-- the entry that points to a table: V
abbrev pub pointer_to : ℕ → ℕ
pointer_to frame = 1 + 1024 * page_of frame

-- V R W U A D, or V R X U A
abbrev pub rights_of : Bool → ℕ
rights_of writes = if writes then 215 else 91

-- the entry of a page
abbrev pub leaf_of : Page → ℕ
leaf_of p = rights_of p.writes + 1024 * page_of p.frame

abbrev pub root_entry : Option ℕ → ℕ
root_entry None = 0
root_entry (Some frame) = pointer_to frame

abbrev pub page_entry : Option Page → ℕ
page_entry None = 0
page_entry (Some p) = leaf_of p

-- each entry of the root and of each table says what is mapped there
pub record Encodes (ram : List ℕ) (m : Maps) : Type 0 where
  pub root : (i : ℕ) → i < 1024 → entry_at ram (4096 * m.root + 4 * i) ≡ root_entry (m.tables i)
  pub leaves : (i f j : ℕ) → i < 1024 → j < 1024 → m.tables i ≡ Some f → entry_at ram (4096 * f + 4 * j) ≡ page_entry (m.pages (1024 * i + j))
  pub covered : (i j : ℕ) → j < 1024 → m.tables i ≡ None → m.pages (1024 * i + j) ≡ None

-- all these frames lie in a RAM of so many bytes
pub record LieInside (size : ℕ) (m : Maps) : Type 0 where
  pub root : 4096 * m.root + 4096 ≤ size
  pub tables : (i f : ℕ) → m.tables i ≡ Some f → 4096 * f + 4096 ≤ size
  pub pages : (v : ℕ) (p : Page) → m.pages v ≡ Some p → 4096 * p.frame + 4096 ≤ size

-- the value of satp for a root
abbrev pub satp_of : ℕ → ℕ
satp_of root = 2147483648 + page_of root

-- whether a page may be used so
abbrev pub lets : Bool → Access → Bool
lets writes Fetch = not writes
lets writes Load = true
lets writes Store = writes

-- the physical address by what is mapped
abbrev pub translated : Option Page → ℕ → Access → Option ℕ
translated None at access = None
translated (Some p) at access = if lets p.writes access then Some (ram_start + (4096 * p.frame + at % 4096)) else None

-- the frame of a region's table, by the entry of the root
abbrev pub table_by : ℕ → Option ℕ
table_by entry = if entry == 0 then None else Some (entry / 1024 - 524288)
