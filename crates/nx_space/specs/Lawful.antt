-- What holds of every world, and what an access may change.
use Rattle.std.specs.Prelude.{◌≡◌, ◌≢◌, ℕ, ◌+◌, ◌%◌, ◌==◌, ◌<◌, ◌≤◌, ◌⊎◌, Bool, true, false, List, [], ◌∷◌, length, slice_index}
use Rattle.std.specs.List.{list_any}
use Rattle.nx_base.specs.declared.access.Access.{Access}
use Rattle.nx_base.specs.Good.{is_good}
use Rattle.nx_space.specs.World.{Home, Common, Own, Part, Group, MemoryMap, World, has_view, group_of, group_in, bytes_in, bytes_of, seen_by, view_of}
use Rattle.nx_space.specs.Places.{written_at, with_own, is_clear}
use Rattle.nx_space.specs.Starts.{program_at, stack_low, frames_of, needs}

-- two windows share no byte
abbrev pub AreApart : Part → Part → Type 0
AreApart p q = (p.home ≢ q.home) ⊎ ((p.from + p.bytes ≤ q.from) ⊎ (q.from + q.bytes ≤ p.from))

abbrev pub IsApartFrom : Part → List Part → Type 0
IsApartFrom p [] = Unit {0}
IsApartFrom p (q ∷ qs) = AreApart p q × IsApartFrom p qs

-- there are such bytes
abbrev pub IsThere : List (List ℕ) → List (List ℕ) → Home → Type 0
IsThere common own (Common k) = k < length common
IsThere common own (Own k) = k < length own

-- the windows of a view lie in the bytes that they show, and apart from one another
abbrev pub AreParts : List (List ℕ) → List (List ℕ) → List Part → Type 0
AreParts common own [] = Unit {0}
AreParts common own (p ∷ ps) =
    (IsThere common own p.home × (p.from + p.bytes ≤ length (bytes_of common own p.home))) × (IsApartFrom p ps × AreParts common own ps)

-- windows of bytes that a group has alone
abbrev pub IsOwn : Home → Type 0
IsOwn (Common k) = ⊥
IsOwn (Own k) = Unit {0}

abbrev pub AreOwn : List Part → Type 0
AreOwn [] = Unit {0}
AreOwn (p ∷ ps) = IsOwn p.home × AreOwn ps

-- the n bytes at an address lie in a window that may be written, and are none of the pool's
abbrev pub MayHold : MemoryMap → List Part → ℕ → ℕ → Type 0
MayHold memory_map ps at n = is_clear memory_map.pool (written_at ps at n) ≡ true

-- without pages: the windows that every group has hold each slot's stack and each program's data
pub record IsShared (memory_map : MemoryMap) (common : List (List ℕ)) : Type 0 where
  pub parts : AreParts common [] memory_map.shared
  pub stacks : (slot : ℕ) → slot < memory_map.threads → MayHold memory_map memory_map.shared (stack_low memory_map slot) memory_map.stack
  pub contents : (place : ℕ) → place < length memory_map.programs → 1 ≤ length (program_at memory_map place).init → MayHold memory_map memory_map.shared (program_at memory_map place).data_at (length (program_at memory_map place).init)

-- with pages: a group's windows are its own, and hold the stacks of its slots and its program's data
pub record IsAlone (memory_map : MemoryMap) (common : List (List ℕ)) (g : Group) : Type 0 where
  pub parts : AreParts common g.own g.parts
  pub own : AreOwn g.parts
  pub stacks : (slot : ℕ) → list_any (λ s. s == slot) g.slots ≡ true → MayHold memory_map g.parts (stack_low memory_map slot) memory_map.stack
  pub contents : 1 ≤ length (program_at memory_map g.program).init → MayHold memory_map g.parts (program_at memory_map g.program).data_at (length (program_at memory_map g.program).init)

-- no two groups have one number
abbrev pub AreNumbered : List Group → Type 0
AreNumbered [] = Unit {0}
AreNumbered (g ∷ gs) = (has_view gs g.number ≡ false) × AreNumbered gs

-- what holds of every world
pub record IsWorld (w : World) : Type 0 where
  pub few : length w.groups ≤ w.memory_map.threads
  pub numbered : AreNumbered w.groups
  pub enough : needs w.memory_map w.groups ≤ w.memory_map.frames
  pub pool : w.memory_map.pool ≤ length (bytes_in w.common 0)
  pub pages : w.memory_map.is_paged ≡ true → w.memory_map.pool % 4096 ≡ 0
  pub shared : w.memory_map.is_paged ≡ false → IsShared w.memory_map w.common
  pub alike : w.memory_map.is_paged ≡ false → (number : ℕ) → has_view w.groups number ≡ true → ((group_of w.groups number).parts ≡ w.memory_map.shared) × ((group_of w.groups number).own ≡ [])
  pub alone : w.memory_map.is_paged ≡ true → (number : ℕ) → has_view w.groups number ≡ true → IsAlone w.memory_map w.common (group_of w.groups number)

-- a byte that no window lets be written
abbrev pub IsOutside : List Part → Home → ℕ → Type 0
IsOutside [] h i = Unit {0}
IsOutside (p ∷ ps) h i = (p.writes ≡ true → p.home ≡ h → (i < p.from) ⊎ (p.from + p.bytes ≤ i)) × IsOutside ps h i

-- nothing differs but bytes that the entered view may write
pub record OnlyEntered (old new : World) : Type 0 where
  pub memory_map : new.memory_map ≡ old.memory_map
  pub entered : new.entered ≡ old.entered
  pub outside : new.outside ≡ old.outside
  pub groups : new.groups ≡ with_own (group_in new).own old.groups old.entered
  pub common : length new.common ≡ length old.common
  pub own : length (group_in new).own ≡ length (group_in old).own
  pub long : (h : Home) → length (seen_by new new.entered h) ≡ length (seen_by old old.entered h)
  pub others : (h : Home) (i : ℕ) → IsOutside (group_in old).parts h i → slice_index (seen_by new new.entered h) i ≡ slice_index (seen_by old old.entered h) i

-- a group is as it was: its record, what is good in its view, and with pages the whole view
pub record IsLeft (old new : World) (number : ℕ) : Type 0 where
  pub view : has_view new.groups number ≡ true
  pub group : group_of new.groups number ≡ group_of old.groups number
  pub good : (at n : ℕ) (a : Access) → is_good (view_of new number) at n a ≡ is_good (view_of old number) at n a
  pub alone : old.memory_map.is_paged ≡ true → view_of new number ≡ view_of old number
