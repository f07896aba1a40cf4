-- Which bytes spell which token (C11 6.4), as far as this C has it.
use Rattle.std.specs.Prelude.{ℕ, ◌==◌, Bool, true, false, ◌&&◌, ◌||◌, not, nat_lt, List, [], ◌∷◌, codes, Option, None, Some, is_some, if◌then◌else◌}
use Rattle.std.specs.Char.{is_ascii_digit, is_ascii_hexdigit}
use Rattle.std.specs.List.{list_all, list_any, find}
use Rattle.std.specs.Str.{bytes_eq}
use Rattle.nx_base.specs.TextBytes.{is_word_byte, is_word_start}
use Rattle.nx_ctok.specs.declared.keyword.Keyword.{Keyword}
use Rattle.nx_ctok.specs.declared.keyword.Keyword.TheVariants as word
use Rattle.nx_ctok.specs.declared.token.TokenKind.{TokenKind}
use Rattle.nx_ctok.specs.declared.token.TokenKind.TheVariants as kind

-- The keywords (C11 6.4.1): this C has no other than its grammar's.
unfoldable pub all_keywords : List Keyword
all_keywords =
    word.Static ∷ word.Int ∷ word.Char ∷ word.Void ∷ word.Const ∷ word.If ∷ word.Else ∷ word.While ∷ word.Do ∷ word.For
    ∷ word.Break ∷ word.Continue ∷ word.Return ∷ word.Sizeof ∷ []

-- How a keyword is spelled.
abbrev pub keyword_text : Keyword → List ℕ
keyword_text word.Static = codes "static"
keyword_text word.Int = codes "int"
keyword_text word.Char = codes "char"
keyword_text word.Void = codes "void"
keyword_text word.Const = codes "const"
keyword_text word.If = codes "if"
keyword_text word.Else = codes "else"
keyword_text word.While = codes "while"
keyword_text word.Do = codes "do"
keyword_text word.For = codes "for"
keyword_text word.Break = codes "break"
keyword_text word.Continue = codes "continue"
keyword_text word.Return = codes "return"
keyword_text word.Sizeof = codes "sizeof"

-- The keyword that these bytes spell.
abbrev pub keyword_of : List ℕ → Option Keyword
keyword_of bytes = find (λ k. bytes_eq bytes (keyword_text k)) all_keywords

-- A word (C11 6.4.2.1) begins with a letter or an underscore. It is a keyword or a name.
abbrev pub word_kind : List ℕ → TokenKind
word_kind bytes = if is_some (keyword_of bytes) then kind.Keyword else kind.Name

-- One or more hexadecimal digits.
abbrev pub are_hex_digits : List ℕ → Bool
are_hex_digits [] = false
are_hex_digits (d ∷ ds) = is_ascii_hexdigit d && list_all is_ascii_hexdigit ds

-- What may stand after a first digit 0: nothing, or "x" and hexadecimal digits.
abbrev pub is_zero_rest : List ℕ → Bool
is_zero_rest [] = true
is_zero_rest (b ∷ bs) = b == 120 && are_hex_digits bs

-- A number (C11 6.4.4.1) by its first digit: "0", decimal digits without a leading 0, or "0x" and hexadecimal digits.
abbrev pub is_number : ℕ → List ℕ → Bool
is_number first rest = if first == 48 then is_zero_rest rest else list_all is_ascii_digit rest

-- A byte of a source in ASCII: a tab, a carriage return, or one from 32 to 126. A newline ends a line.
abbrev pub is_source_byte : ℕ → Bool
is_source_byte b = b == 9 || (b == 13 || (nat_lt 31 b && nat_lt b 127))

-- What a backslash makes of the byte after it (C11 6.4.4.4).
abbrev pub escaped : ℕ → Option ℕ
escaped b =
    if b == 110 then Some 10 else if b == 116 then Some 9 else if b == 114 then Some 13 else if b == 48 then Some 0
    else if b == 92 then Some 92 else if b == 39 then Some 39 else if b == 34 then Some 34 else None

-- A byte that stands for itself in a text or a character: not the closing quote, and no backslash.
abbrev pub is_plain : ℕ → ℕ → Bool
is_plain quote b = is_source_byte b && not (b == quote || b == 92)

-- What may stand after the opening quote of a text (C11 6.4.5): bytes and escapes up to the closing quote, the last byte.
abbrev pub is_text_rest : List ℕ → Bool
is_text_rest [] = false
is_text_rest (b ∷ []) = b == 34
is_text_rest (b ∷ c ∷ bs) = if b == 92 then is_some (escaped c) && is_text_rest bs else is_plain 34 b && is_text_rest (c ∷ bs)

-- What may stand after the opening quote of a character (C11 6.4.4.4): one byte or one escape, and the closing quote.
abbrev pub is_char_rest : List ℕ → Bool
is_char_rest (b ∷ c ∷ []) = is_plain 39 b && c == 39
is_char_rest (b ∷ c ∷ d ∷ []) = b == 92 && (is_some (escaped c) && d == 39)
is_char_rest other = false

-- The marks (C11 6.4.6) of one byte.
abbrev pub single_marks : List ℕ
single_marks = codes ";=[](){},-*?:+/%!~|^&<>"

-- The marks of two bytes.
abbrev pub double_marks : List (List ℕ)
double_marks =
    codes "+=" ∷ codes "-=" ∷ codes "*=" ∷ codes "/=" ∷ codes "%=" ∷ codes "||" ∷ codes "&&" ∷ codes "==" ∷ codes "!="
    ∷ codes "<=" ∷ codes ">=" ∷ codes "<<" ∷ codes ">>" ∷ codes "++" ∷ codes "--" ∷ []

-- Whether a byte is a mark.
unfoldable pub is_single_mark : ℕ → Bool
is_single_mark b = list_any (λ m. b == m) single_marks

-- Whether two bytes are one mark.
unfoldable pub is_double_mark : ℕ → ℕ → Bool
is_double_mark a b = list_any (bytes_eq (a ∷ b ∷ [])) double_marks

-- Whether bytes are a mark.
abbrev pub is_mark : ℕ → List ℕ → Bool
is_mark a [] = is_single_mark a
is_mark a (b ∷ []) = is_double_mark a b
is_mark a (b ∷ c ∷ bs) = false

-- A kind, where a test holds.
abbrev pub kind_if : Bool → TokenKind → Option TokenKind
kind_if test k = if test then Some k else None

-- The kind of the token that these bytes spell, if they spell one: its first byte tells which it can be.
abbrev pub kind_of : List ℕ → Option TokenKind
kind_of [] = None
kind_of (b ∷ bs) =
    if is_word_start b then kind_if (list_all is_word_byte bs) (word_kind (b ∷ bs))
    else if is_ascii_digit b then kind_if (is_number b bs) kind.Number
    else if b == 39 then kind_if (is_char_rest bs) kind.Char
    else if b == 34 then kind_if (is_text_rest bs) kind.Text
    else kind_if (is_mark b bs) kind.Mark

-- The base and the digits of a number's spelling.
abbrev pub digits_of : List ℕ → ℕ × List ℕ
digits_of [] = (10, [])
digits_of (a ∷ []) = (10, a ∷ [])
digits_of (a ∷ b ∷ bs) = if b == 120 then (16, bs) else (10, a ∷ b ∷ bs)
