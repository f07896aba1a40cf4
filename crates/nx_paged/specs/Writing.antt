-- Bytes that are written into the pages of a window.
use Rattle.std.specs.Prelude.{◌≡◌, ◌≢◌, ℕ, ◌+◌, ◌*◌, ◌%◌, ◌<◌, ◌≤◌, Bool, List, length, slice_index}
use Rattle.nx_base.specs.ByteLists.{put_bytes}
use Rattle.nx_tables.specs.Maps.{Maps, satp_of}
use Rattle.nx_tables.specs.Roles.{Role, Leaf, Stands}
use Rattle.nx_tables.specs.ViewBytes.{seen, IsMapped}

-- a group's tables map n bytes at the start of a page
pub record IsPlace (ram : List ℕ) (satp at n : ℕ) (writes : Bool) (roles : ℕ → Role) (g : ℕ) (m : Maps) : Type 0 where
  pub stands : Stands ram roles g m
  pub satp_is : satp ≡ satp_of m.root
  pub mapped : IsMapped m at n writes
  pub start : at % 4096 ≡ 0
  pub top : at + n ≤ 4294967296

-- some group's do
pub record HasPlace (ram : List ℕ) (satp at n : ℕ) : Type 0 where
  pub writes : Bool
  pub roles : ℕ → Role
  pub group : ℕ
  pub maps : Maps
  pub place : IsPlace ram satp at n writes roles group maps

-- the bytes show from a place of the window on, and nothing else was written
pub record Writes (old new : List ℕ) (satp at n from : ℕ) (bytes : List ℕ) (roles : ℕ → Role) (g : ℕ) (m : Maps) : Type 0 where
  pub stands : Stands new roles g m
  pub shows : seen new satp at n ≡ put_bytes (seen old satp at n) from bytes
  pub kept : (f k : ℕ) → ((v : ℕ) → at ≤ 4096 * v → 4096 * v < at + n → roles f ≢ Leaf g v) → k < 4096 → slice_index new (4096 * f + k) ≡ slice_index old (4096 * f + k)
  pub long : length new ≡ length old

-- whatever group's window it is
abbrev pub WritesAll : List ℕ → List ℕ → ℕ → ℕ → ℕ → ℕ → List ℕ → Type 0
WritesAll old new satp at n from bytes =
    (writes : Bool) (roles : ℕ → Role) (g : ℕ) (m : Maps) → IsPlace old satp at n writes roles g m → Writes old new satp at n from bytes roles g m
