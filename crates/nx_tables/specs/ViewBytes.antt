-- The bytes that a view shows, read through the walk from its root.
use Rattle.std.specs.Prelude.{◌≡◌, ℕ, zero, suc, ◌+◌, ◌-◌, ◌/◌, ◌<◌, ◌≤◌, Bool, List, [], ◌∷◌, Option, Some, None, slice_index}
use Rattle.nx_base.specs.declared.access.Access.TheVariants.{Load}
use Rattle.nx_sv32.specs.Walk.{ram_start, walk}
use Rattle.nx_tables.specs.Maps.{Page, Maps}

-- the byte at a physical address, 0 where there is none
abbrev pub byte_by : List ℕ → Option ℕ → ℕ
byte_by ram None = 0
byte_by ram (Some to) = slice_index ram (to - ram_start)

-- n bytes of the view from an address on
unfoldable pub seen : List ℕ → ℕ → ℕ → ℕ → List ℕ
seen ram satp at zero = []
seen ram satp at (suc n) = byte_by ram (walk ram satp at Load) ∷ seen ram satp (at + 1) n

-- the page that is mapped at an address
pub record PageAt (m : Maps) (at : ℕ) (writes : Bool) : Type 0 where
  pub page : Page
  pub mapped : m.pages (at / 4096) ≡ Some page
  pub right : page.writes ≡ writes

-- each of the n addresses from one on has its page
abbrev pub IsMapped : Maps → ℕ → ℕ → Bool → Type 0
IsMapped m start n writes = (at : ℕ) → start ≤ at → at < start + n → PageAt m at writes
