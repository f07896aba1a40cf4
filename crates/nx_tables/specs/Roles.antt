-- Whose each frame of the RAM is, and what an entry adds.
use Rattle.std.specs.Prelude.{◌≡◌, ℕ, ◌+◌, ◌*◌, ◌<◌, ◌≤◌, ◌==◌, Bool, true, false, if◌then◌else◌, List, length, Some, None, slice_index}
use Rattle.nx_sv32.specs.Walk.{ram_start}
use Rattle.nx_tables.specs.Maps.{Page, Maps, Encodes, LieInside}

-- what a frame is: nobody's, or of a group its root, the table of a region, or a page
pub data Role : Type 0 where
  Free : Role
  Root : (g : ℕ) → Role
  Table : (g i : ℕ) → Role
  Leaf : (g v : ℕ) → Role

-- a frame of a group's tables
abbrev pub is_table : ℕ → Role → Bool
is_table g Free = false
is_table g (Root h) = h == g
is_table g (Table h i) = h == g
is_table g (Leaf h v) = false

-- a frame of a group
abbrev pub is_of : ℕ → Role → Bool
is_of g Free = false
is_of g (Root h) = h == g
is_of g (Table h i) = h == g
is_of g (Leaf h v) = h == g

-- what a group's tables name has these roles, so each frame is named once
pub record Owns (role : ℕ → Role) (g : ℕ) (m : Maps) : Type 0 where
  pub root : role m.root ≡ Root g
  pub tables : (i f : ℕ) → m.tables i ≡ Some f → role f ≡ Table g i
  pub pages : (v : ℕ) (p : Page) → m.pages v ≡ Some p → role p.frame ≡ Leaf g v

-- a group's tables stand in the RAM
pub record Stands (ram : List ℕ) (role : ℕ → Role) (g : ℕ) (m : Maps) : Type 0 where
  pub encodes : Encodes ram m
  pub owns : Owns role g m
  pub lie : LieInside (length ram) m
  pub fits : ram_start + length ram ≤ 4294967296

-- a root without entries
abbrev pub no_maps : ℕ → Maps
no_maps root = record { root = root; tables = λ i. None; pages = λ v. None }

abbrev pub with_table : Maps → ℕ → ℕ → Maps
with_table m i frame = record m { tables = λ k. if k == i then Some frame else m.tables k }

abbrev pub with_page : Maps → ℕ → Page → Maps
with_page m v p = record m { pages = λ k. if k == v then Some p else m.pages k }

-- a frame gets another role
abbrev pub with_role : (ℕ → Role) → ℕ → Role → ℕ → Role
with_role role f r = λ k. if k == f then r else role k

-- a group's frames are nobody's
abbrev pub freed : (ℕ → Role) → ℕ → ℕ → Role
freed role g = λ f. if is_of g (role f) then Free else role f

-- each byte of a frame is 0
abbrev pub IsZeroed : List ℕ → ℕ → Type 0
IsZeroed ram frame = (k : ℕ) → k < 4096 → slice_index ram (4096 * frame + k) ≡ 0

-- frames for which a test holds have the bytes that they had
abbrev pub SameFrames : (ℕ → Bool) → List ℕ → List ℕ → Type 0
SameFrames test old new = (f k : ℕ) → test f ≡ true → k < 4096 → slice_index new (4096 * f + k) ≡ slice_index old (4096 * f + k)

-- the frames of a group are still its frames
abbrev pub SameRoles : ℕ → (ℕ → Role) → (ℕ → Role) → Type 0
SameRoles g old new = (f : ℕ) → is_of g (old f) ≡ true → new f ≡ old f
