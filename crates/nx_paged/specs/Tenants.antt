-- The groups that have a view, as a paged space keeps them.
use Rattle.std.specs.Prelude.{ℕ, suc, ◌+◌, ◌==◌, Bool, true, false, not, ◌&&◌, ◌||◌, if◌then◌else◌, List, [], ◌∷◌}
use Rattle.nx_frames.specs.declared.frames.Taken.{Taken}
use Rattle.nx_space.specs.Starts.{has_slot, frames_for}
use Rattle.nx_space.specs.World.{MemoryMap}

-- a group's number, its program's place, the slot of its main thread, the frame of its root, the slots
-- whose stacks it has, and the frames that it took
pub record Tenant : Type 0 where
  pub number : ℕ
  pub program : ℕ
  pub slot : ℕ
  pub root : ℕ
  pub slots : List ℕ
  pub taken : Taken

-- whether a group of this number has a view
unfoldable pub has_tenant : List Tenant → ℕ → Bool
has_tenant [] number = false
has_tenant (t ∷ ts) number = (t.number == number) || has_tenant ts number

-- no two groups have one number
abbrev pub are_distinct : List Tenant → Bool
are_distinct [] = true
are_distinct (t ∷ ts) = not (has_tenant ts t.number) && are_distinct ts

-- no slot stands twice
abbrev pub are_once : List ℕ → Bool
are_once [] = true
are_once (s ∷ ss) = not (has_slot ss s) && are_once ss

-- the frame of the root of the first group of a number, or 0
unfoldable pub root_of : List Tenant → ℕ → ℕ
root_of [] number = 0
root_of (t ∷ ts) number = if t.number == number then t.root else root_of ts number

-- where the first group of a number stands, or how many groups there are
unfoldable pub place_of : List Tenant → ℕ → ℕ
place_of [] number = 0
place_of (t ∷ ts) number = if t.number == number then 0 else suc (place_of ts number)

-- the frames of all groups
unfoldable pub frames_taken : MemoryMap → List Tenant → ℕ
frames_taken memory_map [] = 0
frames_taken memory_map (t ∷ ts) = frames_for memory_map t.program t.slots + frames_taken memory_map ts
