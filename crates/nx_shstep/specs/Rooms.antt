-- What the code of a command holds, with the room that was taken for it.
use Rattle.std.specs.Prelude.{◌≡◌, ℕ, List}

-- Descriptors, the last opened first, and for how many there is room.
pub record HeldDescriptors : Type 0 where
  pub descriptors : List ℕ
  pub room : ℕ

-- The room for steps, and for descriptors.
pub record AreRooms (steps descriptors : ℕ) : Type 0 where
  pub of_steps : steps ≡ 4096
  pub of_descriptors : descriptors ≡ 2048
