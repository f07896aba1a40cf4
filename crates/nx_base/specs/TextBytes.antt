-- The bytes of texts in ASCII: sets of bytes, each with its name, and the numbers that digits write.
use Rattle.std.specs.Prelude.{ℕ, ◌^◌, ◌==◌, Bool, false, ◌&&◌, ◌||◌, nat_lt, if◌then◌else◌, List, [], ◌∷◌, reverse, Option, Some, None}
use Rattle.std.specs.Char.{is_ascii_alphabetic, is_ascii_alphanumeric}
use Rattle.std.specs.List.{list_all, before_first, after_first}
use Rattle.std.specs.Str.Parse.{digits_value}

-- what stands before the first mark, or all where there is none
abbrev pub before_mark : ℕ → List ℕ → List ℕ
before_mark mark bs = before_first (λ b. b == mark) bs

-- what stands after the first mark, or nothing where there is none
abbrev pub after_mark : ℕ → List ℕ → List ℕ
after_mark mark bs = after_first (λ b. b == mark) bs

-- a space or a tab: the blanks of POSIX
abbrev pub is_blank : ℕ → Bool
is_blank b = (b == 32) || (b == 9)

-- a blank, or a carriage return: what a line of text loses at its ends
abbrev pub is_line_blank : ℕ → Bool
is_line_blank b = is_blank b || (b == 13)

-- a space or a newline
abbrev pub is_space_or_newline : ℕ → Bool
is_space_or_newline b = (b == 32) || (b == 10)

-- a letter, a digit or an underscore
abbrev pub is_word_byte : ℕ → Bool
is_word_byte b = is_ascii_alphanumeric b || (b == 95)

-- a letter or an underscore
abbrev pub is_word_start : ℕ → Bool
is_word_start b = is_ascii_alphabetic b || (b == 95)

-- a name of C: a letter or an underscore, and word bytes after it
abbrev pub is_identifier : List ℕ → Bool
is_identifier [] = false
is_identifier (b ∷ bs) = is_word_start b && list_all is_word_byte bs

-- the bytes after those that pass a test at the start
abbrev pub without_leading : (ℕ → Bool) → List ℕ → List ℕ
without_leading test [] = []
without_leading test (b ∷ bs) = if test b then without_leading test bs else b ∷ bs

-- the bytes without those that pass a test at either end
abbrev pub trimmed_of : (ℕ → Bool) → List ℕ → List ℕ
trimmed_of test bs = reverse (without_leading test (reverse (without_leading test bs)))

-- a number below 2^64, or none
abbrev pub below_2_64 : ℕ → Option ℕ
below_2_64 n = if nat_lt n (2 ^ 64) then Some n else None

-- the number that digits write to a base, where it is below 2^64
abbrev pub number_of_digits : ℕ → List ℕ → Option ℕ
number_of_digits base ds = below_2_64 (digits_value base ds)
