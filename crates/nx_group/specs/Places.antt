-- Descriptions by place, and the keys by which a slab has them.
use Rattle.std.specs.Prelude.{ℕ, ◌+◌, ◌≡◌, ◌≤◌, Bool, List, [], ◌∷◌, map, Option, Some, None, IsSome, slice_get}
use Rattle.slab.specs.Slab.{Slab, get, slab_len}
use Rattle.nx_ksys.specs.declared.node.Open.{Open}
use Rattle.nx_ksys.specs.Descriptors.{is_open_file}

-- the description of a key
abbrev pub keyed : Slab Open → Option ℕ → Option Open
keyed s None = None
keyed s (Some key) = get s key

-- the description of a key leads to the file at a place
abbrev pub opens_file : ℕ → Slab Open → Option ℕ → Bool
opens_file place s key = is_open_file place (keyed s key)

-- the descriptions by place
abbrev pub seen : Slab Open → List (Option ℕ) → List (Option Open)
seen s keys = map (keyed s) keys

abbrev pub free_one : Option ℕ → ℕ
free_one None = 1
free_one (Some key) = 0

-- how many places are free
abbrev pub free_places : List (Option ℕ) → ℕ
free_places [] = 0
free_places (k ∷ ks) = free_one k + free_places ks

-- each key has a description, no two places have one key, and there is room for all places
pub record AreKept (s : Slab Open) (keys : List (Option ℕ)) : Type 0 where
  pub there : (i key : ℕ) → slice_get keys i ≡ Some (Some key) → IsSome (get s key)
  pub once : (i j key : ℕ) → slice_get keys i ≡ Some (Some key) → slice_get keys j ≡ Some (Some key) → i ≡ j
  pub room : slab_len s + free_places keys ≤ s.capacity
