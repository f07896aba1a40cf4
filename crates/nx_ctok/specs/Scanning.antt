-- How many bytes the token at the start of a text has, by its first bytes.
use Rattle.std.specs.Prelude.{ℕ, suc, ◌+◌, ◌==◌, Bool, false, ◌&&◌, nat_lt, List, [], ◌∷◌, take, Option, None, Some, is_some, if◌then◌else◌}
use Rattle.std.specs.Char.{is_ascii_digit, is_ascii_hexdigit}
use Rattle.nx_base.specs.TextBytes.{is_word_byte, is_word_start}
use Rattle.nx_ctok.specs.declared.token.TokenKind.{TokenKind}
use Rattle.nx_ctok.specs.declared.token.TokenKind.TheVariants as kind
use Rattle.nx_ctok.specs.declared.scan.Class.{Class}
use Rattle.nx_ctok.specs.declared.scan.Class.TheVariants as class
use Rattle.nx_ctok.specs.Spellings.{word_kind, escaped, is_plain, is_single_mark, is_double_mark}

-- Whether a byte is of a class.
abbrev pub is_in : Class → ℕ → Bool
is_in class.Word b = is_word_byte b
is_in class.Decimal b = is_ascii_digit b
is_in class.Hexadecimal b = is_ascii_hexdigit b

-- How many bytes at the start are of a class.
abbrev pub run : Class → List ℕ → ℕ
run c [] = 0
run c (b ∷ bs) = if is_in c b then suc (run c bs) else 0

-- So many bytes more.
abbrev pub longer : ℕ → Option ℕ → Option ℕ
longer k None = None
longer k (Some n) = Some (k + n)

-- A number after its first digit 0.
abbrev pub zero_length : List ℕ → ℕ
zero_length [] = 0
zero_length (b ∷ bs) = if b == 120 && nat_lt 0 (run class.Hexadecimal bs) then suc (run class.Hexadecimal bs) else 0

-- A number after its first digit.
abbrev pub number_length : ℕ → List ℕ → ℕ
number_length first rest = if first == 48 then zero_length rest else run class.Decimal rest

-- Whether a quote stands at the start.
abbrev pub starts_with_quote : List ℕ → Bool
starts_with_quote [] = false
starts_with_quote (b ∷ bs) = b == 34

-- A text after its opening quote, up to the closing one.
unfoldable pub text_length : List ℕ → Option ℕ
text_length [] = None
text_length (b ∷ []) = if b == 34 then Some 1 else None
text_length (b ∷ c ∷ bs) =
    if b == 34 then Some 1
    else if b == 92 then (if is_some (escaped c) then longer 2 (text_length bs) else None)
    else if is_plain 34 b then longer 1 (text_length (c ∷ bs)) else None

-- A character after its opening quote, up to the closing one.
abbrev pub char_length : List ℕ → Option ℕ
char_length [] = None
char_length (b ∷ []) = None
char_length (b ∷ c ∷ []) = if is_plain 39 b && c == 39 then Some 2 else None
char_length (b ∷ c ∷ d ∷ bs) =
    if is_plain 39 b && c == 39 then Some 2
    else if b == 92 && (is_some (escaped c) && d == 39) then Some 3 else None

-- A mark after its first byte.
abbrev pub mark_length : ℕ → List ℕ → Option ℕ
mark_length a [] = if is_single_mark a then Some 0 else None
mark_length a (b ∷ bs) = if is_double_mark a b then Some 1 else if is_single_mark a then Some 0 else None

-- A token of a kind that has a byte before these.
abbrev pub with_kind : TokenKind → Option ℕ → Option (TokenKind × ℕ)
with_kind k None = None
with_kind k (Some n) = Some (k, suc n)

-- The kind of the token at the start, and how many bytes it has.
abbrev pub scanned : List ℕ → Option (TokenKind × ℕ)
scanned [] = None
scanned (b ∷ bs) =
    if is_word_start b then with_kind (word_kind (b ∷ take (run class.Word bs) bs)) (Some (run class.Word bs))
    else if is_ascii_digit b then with_kind kind.Number (Some (number_length b bs))
    else if b == 39 then with_kind kind.Char (char_length bs)
    else if b == 34 then with_kind kind.Text (text_length bs)
    else with_kind kind.Mark (mark_length b bs)
