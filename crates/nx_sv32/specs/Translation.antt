-- When an address is translated. RISC-V Privileged Architecture 1.12, sections 4.3.1 and 4.3.2.
use Rattle.std.specs.Prelude.{◌≡◌, ◌⊎◌, ℕ, ◌+◌, ◌-◌, ◌*◌, ◌/◌, ◌%◌, ◌<◌, ◌≤◌, List, length, slice_index}
use Rattle.nx_base.specs.declared.access.Access.{Access}
use Rattle.nx_base.specs.declared.access.Access.TheVariants.{Fetch, Load, Store}
use Rattle.nx_sv32.specs.Entries.{page_number}
use Rattle.nx_sv32.specs.Walk.{ram_start, first_number, last_number, page_offset, superpage_offset, root_number, entry_at}

-- the bit of a weight: 1 V, 2 R, 4 W, 8 X, 16 U, 64 A, 128 D
abbrev pub IsSet : ℕ → ℕ → Type 0
IsSet entry weight = entry / weight % 2 ≡ 1

abbrev pub IsClear : ℕ → ℕ → Type 0
IsClear entry weight = entry / weight % 2 ≡ 0

-- all bytes of a page lie in the RAM
abbrev pub LiesInRam : List ℕ → ℕ → Type 0
LiesInRam ram page = (ram_start ≤ 4096 * page) × (4096 * page + 4096 ≤ ram_start + length ram)

-- the entry with a number of the table in a page
abbrev pub table_entry : List ℕ → ℕ → ℕ → ℕ
table_entry ram page number = entry_at ram (4096 * page - ram_start + 4 * number)

-- an entry that points to a table
pub record PointsToTable (entry : ℕ) : Type 0 where
  pub valid : IsSet entry 1
  pub not_read : IsClear entry 2
  pub not_written : IsClear entry 4
  pub not_executed : IsClear entry 8
  pub not_user : IsClear entry 16
  pub not_accessed : IsClear entry 64
  pub not_dirty : IsClear entry 128

-- what an access wants: a page that is fetched from may be written only where it may be read
abbrev pub HasRight : ℕ → Access → Type 0
HasRight entry Fetch = IsSet entry 8 × (IsSet entry 4 → IsSet entry 2)
HasRight entry Load = IsSet entry 2
HasRight entry Store = IsSet entry 2 × IsSet entry 4 × IsSet entry 128

-- a leaf that permits an access in user mode
pub record IsPermittedBy (entry : ℕ) (access : Access) : Type 0 where
  pub valid : IsSet entry 1
  pub user : IsSet entry 16
  pub accessed : IsSet entry 64
  pub right : HasRight entry access

-- the physical address is in the RAM
abbrev pub IsInRam : List ℕ → ℕ → Type 0
IsInRam ram to = (ram_start ≤ to) × (to < ram_start + length ram)

-- the root's entry points to a table, whose entry is a page
pub record IsInPage (ram : List ℕ) (root at : ℕ) (access : Access) (to : ℕ) : Type 0 where
  pub root_lies : LiesInRam ram root
  pub points : PointsToTable (table_entry ram root (first_number at))
  pub table_lies : LiesInRam ram (page_number (table_entry ram root (first_number at)))
  pub permitted : IsPermittedBy (table_entry ram (page_number (table_entry ram root (first_number at))) (last_number at)) access
  pub address : to ≡ 4096 * page_number (table_entry ram (page_number (table_entry ram root (first_number at))) (last_number at)) + page_offset at
  pub inside : IsInRam ram to

-- the root's entry is a superpage, aligned to its size
pub record IsInSuperpage (ram : List ℕ) (root at : ℕ) (access : Access) (to : ℕ) : Type 0 where
  pub root_lies : LiesInRam ram root
  pub permitted : IsPermittedBy (table_entry ram root (first_number at)) access
  pub aligned : page_number (table_entry ram root (first_number at)) % 1024 ≡ 0
  pub address : to ≡ 4096 * page_number (table_entry ram root (first_number at)) + superpage_offset at
  pub inside : IsInRam ram to

-- an address is its own translation without the mode, bit 31 of satp; with it, it is in a page or a superpage
abbrev pub IsTranslated : List ℕ → ℕ → ℕ → Access → ℕ → Type 0
IsTranslated ram satp at access to =
    ((satp < 2147483648) × (to ≡ at)) ⊎ ((2147483648 ≤ satp) × (IsInPage ram (root_number satp) at access to ⊎ IsInSuperpage ram (root_number satp) at access to))

-- the bytes of a page are the same in two RAMs
abbrev pub SamePage : List ℕ → List ℕ → ℕ → Type 0
SamePage old new page = (k : ℕ) → 4096 * page ≤ ram_start + k → ram_start + k < 4096 * page + 4096 → slice_index new k ≡ slice_index old k
