-- What numbers, characters and texts stand for.
use Rattle.std.specs.Prelude.{ℕ, ◌==◌, List, [], ◌∷◌, Option, None, Some, if◌then◌else◌}
use Rattle.std.specs.Str.Parse.{digits_value}
use Rattle.nx_ctok.specs.Spellings.{digits_of, escaped}

-- The number that a number's spelling writes.
abbrev pub number_of : List ℕ → ℕ
number_of text = digits_value (digits_of text).0 (digits_of text).1

-- The byte that an escape stands for; no other byte stands after a backslash.
abbrev pub escape_value : Option ℕ → ℕ
escape_value None = 0
escape_value (Some b) = b

-- The byte that a character's spelling stands for: its own, or that of its escape.
abbrev pub character_of : List ℕ → ℕ
character_of (quote ∷ b ∷ c ∷ []) = b
character_of (quote ∷ b ∷ c ∷ d ∷ []) = escape_value (escaped c)
character_of other = 0

-- The bytes that a text stands for, after its opening quote: the last byte is the closing one.
unfoldable pub text_rest_of : List ℕ → List ℕ
text_rest_of [] = []
text_rest_of (b ∷ []) = []
text_rest_of (b ∷ c ∷ bs) = if b == 92 then escape_value (escaped c) ∷ text_rest_of bs else b ∷ text_rest_of (c ∷ bs)

-- The bytes that a text's spelling stands for, without the zero byte that C puts after them (C11 6.4.5).
abbrev pub text_of : List ℕ → List ℕ
text_of [] = []
text_of (quote ∷ bs) = text_rest_of bs
