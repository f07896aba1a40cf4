-- Values under numbers, by their places in a list.
use Rattle.std.specs.Prelude.{◌≡◌, ◌≢◌, ℕ, List, Option, Some, None, slice_get}
use Rattle.nx_ksys.specs.Threads.{flat}

-- The value under a number.
abbrev pub found : {A : Type 0} → List (Option A) → ℕ → Option A
found xs number = flat (slice_get xs number)

-- A number has this value now, or none, and the others stay.
pub record Puts {A : Type 0} (old new : List (Option A)) (number : ℕ) (value : Option A) : Type 0 where
  pub own : found new number ≡ value
  pub others : (n : ℕ) → n ≢ number → found new n ≡ found old n

-- A value as the definition sees it.
abbrev pub seen : {A B : Type 0} → (A → B) → Option A → Option B
seen f None = None
seen f (Some x) = Some (f x)
