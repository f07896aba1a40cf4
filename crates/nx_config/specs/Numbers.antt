-- Numbers as a line writes them.
use Rattle.std.specs.Prelude.{ℕ, ◌==◌, nat_eq, Bool, true, false, if◌then◌else◌, List, [], ◌∷◌, codes, drop, ℤ, pos, neg_ℤ, Option, None, Some, Result, Ok, Err}
use Rattle.std.specs.List.{list_all, starts_with}
use Rattle.std.specs.Char.{is_ascii_digit, is_ascii_hexdigit}
use Rattle.nx_base.specs.TextBytes.{number_of_digits}
use Rattle.nx_config.specs.declared.fault.ConfigKind.{ConfigKind}
use Rattle.nx_config.specs.declared.fault.ConfigKind.TheVariants.{BadLine, BadNumber}

-- a number below 2^64; where there is none, the digits write one that is too wide
abbrev pub or_too_wide : Option ℕ → Result ℕ ConfigKind
or_too_wide (Some n) = Ok n
or_too_wide None = Err BadNumber

-- the number of one digit or more, all of which pass the test
abbrev pub numeral_of : ℕ → (ℕ → Bool) → List ℕ → Result ℕ ConfigKind
numeral_of base is_digit [] = Err BadLine
numeral_of base is_digit (d ∷ ds) = if list_all is_digit (d ∷ ds) then or_too_wide (number_of_digits base (d ∷ ds)) else Err BadLine

-- decimal digits, or `0x` and hexadecimal digits
unfoldable pub magnitude_of : List ℕ → Result ℕ ConfigKind
magnitude_of text =
    if starts_with nat_eq text (codes "0x") then numeral_of 16 is_ascii_hexdigit (drop 2 text) else numeral_of 10 is_ascii_digit text

-- a number, or its negative after a minus sign
abbrev pub signed_by : Bool → Result ℕ ConfigKind → Result ℤ ConfigKind
signed_by minus (Ok n) = Ok (if minus then neg_ℤ (pos n) else pos n)
signed_by minus (Err kind) = Err kind

-- a magnitude, or a minus sign and a magnitude
unfoldable pub integer_of : List ℕ → Result ℤ ConfigKind
integer_of [] = Err BadLine
integer_of (b ∷ bs) = if b == 45 then signed_by true (magnitude_of bs) else signed_by false (magnitude_of (b ∷ bs))
