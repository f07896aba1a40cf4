-- The numbers that words write.
use Rattle.std.specs.Prelude.{ℕ, ◌^◌, ◌-◌, ◌==◌, nat_le, if◌then◌else◌, List, [], ◌∷◌, ℤ, pos, neg_ℤ, Option, None, Some}
use Rattle.std.specs.List.{list_all}
use Rattle.std.specs.Char.{is_ascii_digit}
use Rattle.nx_base.specs.TextBytes.{number_of_digits}

-- Decimal digits, at least one.
abbrev pub magnitude : List ℕ → Option ℕ
magnitude [] = None
magnitude (d ∷ ds) = if list_all is_ascii_digit (d ∷ ds) then number_of_digits 10 (d ∷ ds) else None

abbrev pub positive : Option ℕ → Option ℤ
positive None = None
positive (Some n) = if nat_le n (2 ^ 31 - 1) then Some (pos n) else None

abbrev pub negative : Option ℕ → Option ℤ
negative None = None
negative (Some n) = if nat_le n (2 ^ 31) then Some (neg_ℤ (pos n)) else None

-- A number: an optional `-` and digits, from -2147483648 to 2147483647.
unfoldable pub number : List ℕ → Option ℤ
number [] = None
number (b ∷ bs) = if b == 45 then negative (magnitude bs) else positive (magnitude (b ∷ bs))
