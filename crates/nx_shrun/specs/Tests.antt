-- The expressions of `test`.
use Rattle.std.specs.Prelude.{ℕ, ◌==◌, false, not, if◌then◌else◌, List, [], ◌∷◌, length, codes, ℤ, int_lt, int_le, Option, None, Some}
use Rattle.std.specs.Ordering.{int_eq}
use Rattle.std.specs.Str.{bytes_eq}
use Rattle.nx_shrun.specs.declared.step.Test.{Test}
use Rattle.nx_shrun.specs.declared.step.Test.TheVariants.{Malformed, Known, Path}
use Rattle.nx_shrun.specs.declared.step.Wanted.TheVariants.{Anything, File, Directory}
use Rattle.nx_shrun.specs.Numbers.{number}

-- `-n S`, `-z S`: the text isn't empty, or is; `-e P`, `-f P`, `-d P`: the path names something, a file, a directory.
abbrev pub unary : List ℕ → List ℕ → Test
unary op s =
    if bytes_eq op (codes "-n") then Known (not (length s == 0)) else
    if bytes_eq op (codes "-z") then Known (length s == 0) else
    if bytes_eq op (codes "-e") then Path Anything false else
    if bytes_eq op (codes "-f") then Path File false else
    if bytes_eq op (codes "-d") then Path Directory false else Malformed

-- Comparisons of numbers.
abbrev pub compared : List ℕ → ℤ → ℤ → Test
compared op a b =
    if bytes_eq op (codes "-eq") then Known (int_eq a b) else
    if bytes_eq op (codes "-ne") then Known (not (int_eq a b)) else
    if bytes_eq op (codes "-lt") then Known (int_lt a b) else
    if bytes_eq op (codes "-le") then Known (int_le a b) else
    if bytes_eq op (codes "-gt") then Known (int_lt b a) else
    if bytes_eq op (codes "-ge") then Known (int_le b a) else Malformed

abbrev pub both_numbers : List ℕ → Option ℤ → Option ℤ → Test
both_numbers op (Some a) (Some b) = compared op a b
both_numbers op (Some a) None = Malformed
both_numbers op None b = Malformed

-- `S = T`, `S != T`: the texts are equal, or not; or a comparison of numbers.
abbrev pub binary : List ℕ → List ℕ → List ℕ → Test
binary s op t =
    if bytes_eq op (codes "=") then Known (bytes_eq s t) else
    if bytes_eq op (codes "!=") then Known (not (bytes_eq s t)) else
    both_numbers op (number s) (number t)

-- An expression without a `!` before it.
unfoldable pub plain_test : List (List ℕ) → Test
plain_test (op ∷ s ∷ []) = unary op s
plain_test (s ∷ op ∷ t ∷ []) = binary s op t
plain_test ws = Malformed

abbrev pub negated : Test → Test
negated Malformed = Malformed
negated (Known holds) = Known (not holds)
negated (Path wanted isnt) = Path wanted (not isnt)

-- What stands after a `!` is tried where the whole has no form.
abbrev pub after_not : List (List ℕ) → Test
after_not [] = Malformed
after_not (w ∷ ws) = if bytes_eq w (codes "!") then negated (plain_test ws) else Malformed

abbrev pub or_after_not : Test → List (List ℕ) → Test
or_after_not Malformed ws = after_not ws
or_after_not test ws = test

-- An expression.
unfoldable pub test_of : List (List ℕ) → Test
test_of ws = or_after_not (plain_test ws) ws
