-- Which bytes are which tokens.
use Rattle.std.specs.Prelude.{◌≡◌, ℕ, ◌==◌, Bool, ◌&&◌, nat_lt, List, [], ◌∷◌, length, codes, take_while, Option, None, Some, if◌then◌else◌}
use Rattle.std.specs.Char.{is_ascii_digit, is_ascii_hexdigit}
use Rattle.std.specs.Option.{option_map}
use Rattle.std.specs.List.{list_all}
use Rattle.std.specs.Str.{bytes_eq}
use Rattle.nx_conditions.specs.declared.token.Token.{Token}
use Rattle.nx_conditions.specs.declared.token.Token.TheVariants as token
use Rattle.nx_conditions.specs.declared.token.Comparison.TheVariants as comparison
use Rattle.nx_base.specs.TextBytes.{is_blank, is_word_byte, without_leading, number_of_digits}

-- One or more bytes, each of this kind.
abbrev pub are_some : (ℕ → Bool) → List ℕ → Bool
are_some is bytes = nat_lt 0 (length bytes) && list_all is bytes

-- What stands after "0x".
abbrev pub after_prefix : List ℕ → List ℕ
after_prefix [] = []
after_prefix (a ∷ []) = []
after_prefix (a ∷ b ∷ digits) = if a == 48 && b == 120 then digits else []

-- The token of a word: "defined", a decimal number, a hexadecimal one, else a name. A number of 2^64 or more is none.
abbrev pub word_token : List ℕ → Option Token
word_token word =
    if bytes_eq word (codes "defined") then Some token.Defined
    else if list_all is_ascii_digit word then option_map token.Number (number_of_digits 10 word)
    else if are_some is_ascii_hexdigit (after_prefix word) then option_map token.Number (number_of_digits 16 (after_prefix word))
    else Some (token.Name word)

-- A mark of two bytes.
abbrev pub two_mark : ℕ → ℕ → Option Token
two_mark a b =
    if a == 124 && b == 124 then Some token.Or
    else if a == 38 && b == 38 then Some token.And
    else if a == 61 && b == 61 then Some (token.Compare comparison.Equal)
    else if a == 33 && b == 61 then Some (token.Compare comparison.NotEqual)
    else if a == 60 && b == 61 then Some (token.Compare comparison.AtMost)
    else if a == 62 && b == 61 then Some (token.Compare comparison.AtLeast)
    else None

-- A mark of one byte.
abbrev pub one_mark : ℕ → Option Token
one_mark a =
    if a == 60 then Some (token.Compare comparison.Less)
    else if a == 62 then Some (token.Compare comparison.Greater)
    else if a == 33 then Some token.Not
    else if a == 40 then Some token.Open
    else if a == 41 then Some token.Close
    else None

-- A mark of two bytes, and what stands after it.
abbrev pub two_at : ℕ → List ℕ → Option (Token × List ℕ)
two_at a [] = None
two_at a (b ∷ rest) = option_map (λ t. (t, rest)) (two_mark a b)

-- The longer mark wins.
abbrev pub longer : Option (Token × List ℕ) → ℕ → List ℕ → Option (Token × List ℕ)
longer (Some two) a rest = Some two
longer None a rest = option_map (λ t. (t, rest)) (one_mark a)

-- The longest mark that the bytes begin with, and what stands after it.
abbrev pub mark_at : ℕ → List ℕ → Option (Token × List ℕ)
mark_at a rest = longer (two_at a rest) a rest

-- The longest word that the bytes begin with, and what stands after it.
abbrev pub word_at : List ℕ → Option (Token × List ℕ)
word_at bytes = option_map (λ t. (t, without_leading is_word_byte bytes)) (word_token (take_while is_word_byte bytes))

-- The token that the bytes begin with, and what stands after it.
abbrev pub token_at : List ℕ → Option (Token × List ℕ)
token_at [] = None
token_at (b ∷ rest) = if is_word_byte b then word_at (b ∷ rest) else mark_at b rest

-- The bytes without the blanks that they begin with.
abbrev pub after_blanks : List ℕ → List ℕ
after_blanks bytes = without_leading is_blank bytes

-- Bytes that begin with no blank, and their tokens with the end: blanks may stand after each token.
pub data AreTokens : List ℕ → List Token → Type 0 where
  End : AreTokens [] (token.End ∷ [])
  More : (bytes rest : List ℕ) (t : Token) (ts : List Token) → token_at bytes ≡ Some (t, rest) → AreTokens (after_blanks rest) ts → AreTokens bytes (t ∷ ts)

-- The tokens of a text, where blanks may stand before the first one too.
abbrev pub AreTokensOf : List ℕ → List Token → Type 0
AreTokensOf bytes ts = AreTokens (after_blanks bytes) ts
