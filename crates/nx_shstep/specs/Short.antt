-- Words that a command may have.
use Rattle.std.specs.Prelude.{ℕ, ◌≤◌, List, length}
use Rattle.nx_shrun.specs.Texts.{word_at}

-- No word is too long.
abbrev pub AreShort : List (List ℕ) → Type 0
AreShort words = (place : ℕ) → length (word_at words place) ≤ 255
