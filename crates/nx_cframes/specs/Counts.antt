-- Counts that go up to 2^32: from there on all are one. And the bytes of a call by what it keeps.
use Rattle.std.specs.Prelude.{ℕ, ◌+◌, ◌*◌, ◌/◌, ◌^◌, min, List, map}
use Rattle.nx_checked.specs.declared.checked.CheckedExpr.{CheckedExpr}
use Rattle.nx_checked.specs.declared.checked.CheckedPlace.{CheckedPlace, fold-CheckedPlace}
use Rattle.nx_checked.specs.declared.checked.CheckedStmt.{CheckedStmt}
use Rattle.nx_checked.specs.Frames.{arguments, greatest, expr_values, place_values, values_of, values_in}

unfoldable pub capped : ℕ → ℕ
capped n = min n (2 ^ 32)

-- The values that a place keeps at most at one time, and those of arguments and of statements.
abbrev pub values_at : CheckedPlace → ℕ
values_at p = fold-CheckedPlace ℕ ℕ expr_values place_values p

abbrev pub argument_values : List CheckedExpr → ℕ
argument_values xs = arguments (map values_of xs)

abbrev pub block_values : List CheckedStmt → ℕ
block_values ss = greatest (map values_in ss)

-- The bytes of a call with so many variables and waiting values, and so many bytes of arrays.
abbrev pub bytes_with : ℕ → ℕ → ℕ
bytes_with cells arrays = 16 * ((16 + 4 * cells + arrays + 15) / 16)
