-- The types of a row of the call table.
use Rattle.std.specs.Prelude.{ℕ, ◌==◌, Bool, true, false, not, ◌||◌, nat_lt, if◌then◌else◌, List, [], ◌∷◌, ◌++◌, length, codes}
use Rattle.std.specs.List.{count_by, filter, flat_map, concat, slice_split, join_with_byte}
use Rattle.std.specs.Str.{bytes_eq}
use Rattle.nx_base.specs.TextBytes.{before_mark, after_mark, is_line_blank, is_word_byte}
use Rattle.nx_calls.specs.declared.types.CallType.{CallType}

-- a letter, a digit or an underscore goes to the word that follows it, if one does
abbrev pub onto_word : ℕ → List (List ℕ) → List (List ℕ)
onto_word b [] = (b ∷ []) ∷ []
onto_word b ([] ∷ pieces) = (b ∷ []) ∷ pieces
onto_word b ((c ∷ cs) ∷ pieces) = if is_word_byte c then (b ∷ c ∷ cs) ∷ pieces else (b ∷ []) ∷ (c ∷ cs) ∷ pieces

-- the pieces of a text: its whole words, and each other byte
abbrev pub pieces_of : List ℕ → List (List ℕ)
pieces_of [] = []
pieces_of (b ∷ bytes) = if is_word_byte b then onto_word b (pieces_of bytes) else (b ∷ []) ∷ pieces_of bytes

-- the word FAR
abbrev pub is_far : List ℕ → Bool
is_far word = bytes_eq word (codes "FAR")

-- a text without the whole word FAR
abbrev pub without_far : List ℕ → List ℕ
without_far bytes = concat (filter (λ piece. not (is_far piece)) (pieces_of bytes))

-- a part that has a byte
abbrev pub is_filled : List ℕ → Bool
is_filled [] = false
is_filled (b ∷ bytes) = true

-- the parts that have a byte
abbrev pub filled : List (List ℕ) → List (List ℕ)
filled parts = filter is_filled parts

-- what stands between blanks
abbrev pub between_blanks : List ℕ → List (List ℕ)
between_blanks bytes = slice_split is_line_blank bytes

-- a part of a type: without FAR, with single spaces for blanks, and none at its ends
unfoldable pub plain : List ℕ → List ℕ
plain part = join_with_byte 32 (filled (between_blanks (without_far part)))

-- parts, each after a space
abbrev pub spaced : List (List ℕ) → List ℕ
spaced parts = flat_map (λ part. 32 ∷ part) parts

-- what parts add to a text: whether a blank stands between it and the first
abbrev pub added : Bool → List (List ℕ) → List ℕ
added true parts = spaced (filled parts)
added false [] = []
added false (part ∷ parts) = part ++ spaced (filled parts)

-- how many bars a field has
abbrev pub bars : List ℕ → ℕ
bars field = count_by (λ b. b == 124) field

-- two bars or more make a union of types
abbrev pub is_union : List ℕ → Bool
is_union field = nat_lt 1 (bars field)

-- the type of a field: formal and actual part around its bar, or twice the whole where it has none
unfoldable pub type_of : List ℕ → CallType
type_of field =
    if bars field == 1
    then record { formal = plain (before_mark 124 field); actual = plain (after_mark 124 field) }
    else record { formal = plain field; actual = plain field }

-- a type with an empty part
abbrev pub is_bad : CallType → Bool
is_bad t = length t.formal == 0 || length t.actual == 0
