-- A unit that counts what it is asked.
use Rattle.std.specs.Prelude.{◌≡◌, ℕ, ◌+◌, ◌<◌, ◌≤◌, Option, Some, None}
use Rattle.nx_base.specs.declared.access.Access.{Access}
use Rattle.nx_base.specs.declared.access.Mode.{Mode}
use Rattle.nx_pmp.specs.declared.matching.Range.{Range}
use Rattle.nx_pmp.specs.declared.pmp.Pmp.{Pmp}
use Rattle.nx_pmp.specs.declared.region.Region.{Region}
use Rattle.nx_pmp.specs.declared.unit.Question.{Question}
use Rattle.nx_pmp.specs.Protection.{allows, permits}

-- the entries, how often they were asked, and the last question
pub record AskedUnit : Type 0 where
  pub pmp : Pmp
  pub asked : ℕ
  pub last : Option Question

-- there is no last question exactly where none was asked
abbrev pub IsAsked : ℕ → Option Question → Type 0
IsAsked asked None = asked ≡ 0
IsAsked asked (Some q) = 0 < asked

-- the bytes of an access lie in a range
abbrev pub Contains : Range → ℕ → ℕ → Type 0
Contains r at len = (r.from ≤ at) × (at + len ≤ r.to)

-- what the entries allow of an access that lies in a region, the region's configuration permits
unfoldable pub IsDecided : Pmp → Region → Type 0
IsDecided pmp r = (at len : ℕ) (access : Access) (mode : Mode) → 1 ≤ len → Contains r.range at len → allows pmp at len access mode ≡ permits r.cfg access mode
