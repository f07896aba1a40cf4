-- Frames that are set to zeros.
use Rattle.std.specs.Prelude.{◌≡◌, ℕ, ◌+◌, ◌-◌, ◌<◌, ◌≤◌, ◌⊎◌, List, length, slice_index}
use Rattle.nx_frames.specs.Chains.{Each}

-- the address of the RAM's first byte
abbrev pub ram_start : ℕ
ram_start = 0x80000000

-- each byte of a frame is 0
abbrev pub IsZeroed : List ℕ → ℕ → Type 0
IsZeroed ram frame = (k : ℕ) → k < 4096 → slice_index ram (frame - ram_start + k) ≡ 0

-- a place of the RAM that is in none of these frames
abbrev pub IsElsewhere : List ℕ → ℕ → Type 0
IsElsewhere frames place = Each (λ f. (ram_start + place < f) ⊎ (f + 4096 ≤ ram_start + place)) frames

-- these frames are set to zeros, and no other byte differs
pub record AreZeroed (old new : List ℕ) (frames : List ℕ) : Type 0 where
  pub zeros : Each (λ f. IsZeroed new f) frames
  pub others : (place : ℕ) → IsElsewhere frames place → slice_index new place ≡ slice_index old place
  pub long : length new ≡ length old
