-- What the page tables in a RAM make of an address. RISC-V Privileged Architecture 1.12, section 4.3.2.
use Rattle.std.specs.Prelude.{ℕ, ◌+◌, ◌-◌, ◌*◌, ◌/◌, ◌%◌, ◌==◌, ◌&&◌, nat_le, if◌then◌else◌, List, length, Option, Some, None, Result, Ok, Err}
use Rattle.nx_base.specs.ByteLists.{get_bytes, from_le}
use Rattle.nx_base.specs.declared.access.Access.{Access}
use Rattle.nx_sv32.specs.declared.sv32.PageFault.{PageFault}
use Rattle.nx_sv32.specs.Entries.{page_number, is_refused, is_leaf, is_pointer, permits}

-- the address of the RAM's first byte
abbrev pub ram_start : ℕ
ram_start = 0x80000000

-- the parts of an address: the page number at each level, and the offsets in a page and in a superpage
abbrev pub first_number : ℕ → ℕ
first_number at = at / 4194304

abbrev pub last_number : ℕ → ℕ
last_number at = at / 4096 % 1024

abbrev pub page_offset : ℕ → ℕ
page_offset at = at % 4096

abbrev pub superpage_offset : ℕ → ℕ
superpage_offset at = at % 4194304

-- the entry at a place of the RAM
unfoldable pub entry_at : List ℕ → ℕ → ℕ
entry_at ram place = from_le (get_bytes ram place 4)

-- the place of the table with a page number, where all its bytes lie in a RAM of so many bytes
unfoldable pub table_place : ℕ → ℕ → Option ℕ
table_place size page = if nat_le ram_start (4096 * page) && nat_le (4096 * page + 4096) (ram_start + size) then Some (4096 * page - ram_start) else None

-- an address, where it lies in the RAM
unfoldable pub in_ram : ℕ → ℕ → Option ℕ
in_ram size at = if nat_le ram_start at && nat_le (at + 1) (ram_start + size) then Some at else None

-- a leaf of the last level is a page
unfoldable pub page_leaf : ℕ → ℕ → ℕ → Access → Option ℕ
page_leaf size entry at access = if permits entry access then in_ram size (4096 * page_number entry + page_offset at) else None

-- a leaf of the first level is a superpage, whose page number is a multiple of 1,024
unfoldable pub superpage_leaf : ℕ → ℕ → ℕ → Access → Option ℕ
superpage_leaf size entry at access =
    if permits entry access && (page_number entry % 1024 == 0) then in_ram size (4096 * page_number entry + superpage_offset at) else None

-- an entry of the last level is a leaf
unfoldable pub last_entry : ℕ → ℕ → ℕ → Access → Option ℕ
last_entry size entry at access = if is_refused entry then None else (if is_leaf entry then page_leaf size entry at access else None)

-- the table of the last level, by its place in the RAM
abbrev pub last_table : List ℕ → Option ℕ → ℕ → Access → Option ℕ
last_table ram None at access = None
last_table ram (Some t) at access = last_entry (length ram) (entry_at ram (t + 4 * last_number at)) at access

-- an entry of the first level is a leaf, or points to a table of the last level
unfoldable pub first_entry : List ℕ → ℕ → ℕ → Access → Option ℕ
first_entry ram entry at access =
    if is_refused entry then None else (if is_leaf entry then superpage_leaf (length ram) entry at access else (if is_pointer entry then last_table ram (table_place (length ram) (page_number entry)) at access else None))

-- the table of the first level, by its place in the RAM
abbrev pub first_table : List ℕ → Option ℕ → ℕ → Access → Option ℕ
first_table ram None at access = None
first_table ram (Some t) at access = first_entry ram (entry_at ram (t + 4 * first_number at)) at access

-- the page number of the root, bits 21 to 0 of satp
abbrev pub root_number : ℕ → ℕ
root_number satp = satp % 4194304

-- the physical address, or none where there is a page fault; without the mode, bit 31 of satp, nothing is translated
unfoldable pub walk : List ℕ → ℕ → ℕ → Access → Option ℕ
walk ram satp at access =
    if nat_le 2147483648 satp then first_table ram (table_place (length ram) (root_number satp)) at access else Some at

-- a walk's answer
abbrev pub or_fault : Option ℕ → Result ℕ PageFault
or_fault None = Err (record {})
or_fault (Some to) = Ok to
