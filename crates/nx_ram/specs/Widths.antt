-- How many bytes a load or a store moves.
use Rattle.std.specs.Prelude.{◌≡◌, ◌⊎◌, ℕ}

abbrev pub IsWidth : ℕ → Type 0
IsWidth n = (n ≡ 1) ⊎ (n ≡ 2) ⊎ (n ≡ 4)
