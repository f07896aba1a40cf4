-- Frames in chains: each frame has one that follows it.
use Rattle.std.specs.Prelude.{◌≡◌, ◌≢◌, ℕ, zero, suc, ◌+◌, ◌*◌, ◌<◌, List, [], ◌∷◌, slice_index}

-- the address of a frame, by its number and the address of the first
abbrev pub address : ℕ → ℕ → ℕ
address first number = first + 4096 * number

-- the addresses of n frames, from one on
unfoldable pub chain : ℕ → List ℕ → ℕ → ℕ → List ℕ
chain first next head zero = []
chain first next head (suc n) = address first head ∷ chain first next (slice_index next head) n

-- the frame that is n steps after one
unfoldable pub frame_after : List ℕ → ℕ → ℕ → ℕ
frame_after next head zero = head
frame_after next head (suc n) = frame_after next (slice_index next head) n

-- a fact of each
abbrev pub Each : (ℕ → Type 0) → List ℕ → Type 0
Each P [] = Unit {0}
Each P (x ∷ xs) = P x × Each P xs

-- no element stands twice
abbrev pub AreOnce : List ℕ → Type 0
AreOnce [] = Unit {0}
AreOnce (x ∷ xs) = Each (λ y. y ≢ x) xs × AreOnce xs

-- two lists have no element in common
abbrev pub AreApart : List ℕ → List ℕ → Type 0
AreApart xs ys = Each (λ x. Each (λ y. y ≢ x) ys) xs

-- the address of one of so many frames
abbrev pub IsFrame : ℕ → ℕ → ℕ → Type 0
IsFrame first count a = (number : ℕ) × (number < count) × (a ≡ address first number)
