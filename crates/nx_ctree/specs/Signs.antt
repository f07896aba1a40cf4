-- What a token is to the grammar.
use Rattle.std.specs.Prelude.{ℕ, List, [], ◌∷◌, codes, Option, None, Some}
use Rattle.std.specs.List.{find}
use Rattle.std.specs.Str.{bytes_eq}
use Rattle.nx_ctok.specs.declared.keyword.Keyword.{Keyword}
use Rattle.nx_ctok.specs.declared.keyword.Keyword.TheVariants as word
use Rattle.nx_ctok.specs.declared.token.TokenKind.{TokenKind}
use Rattle.nx_ctok.specs.declared.token.TokenKind.TheVariants as kind
use Rattle.nx_ctok.specs.declared.token.Token.{Token}
use Rattle.nx_ctok.specs.Spellings.{keyword_of}
use Rattle.nx_ctree.specs.declared.sign.Sign.{Sign}
use Rattle.nx_ctree.specs.declared.sign.Sign.TheVariants as sign
use Rattle.nx_ctree.specs.declared.sign.Signed.{Signed}

-- The sign of a keyword.
abbrev pub keyword_sign : Option Keyword → Sign
keyword_sign None = sign.Other
keyword_sign (Some word.Static) = sign.Static
keyword_sign (Some word.Int) = sign.Int
keyword_sign (Some word.Char) = sign.CharWord
keyword_sign (Some word.Void) = sign.Void
keyword_sign (Some word.Const) = sign.Const
keyword_sign (Some word.If) = sign.If
keyword_sign (Some word.Else) = sign.Else
keyword_sign (Some word.While) = sign.While
keyword_sign (Some word.Do) = sign.Do
keyword_sign (Some word.For) = sign.For
keyword_sign (Some word.Break) = sign.Break
keyword_sign (Some word.Continue) = sign.Continue
keyword_sign (Some word.Return) = sign.Return
keyword_sign (Some word.Sizeof) = sign.SizeOf

-- The marks.
unfoldable pub all_marks : List Sign
all_marks =
    sign.Semicolon ∷ sign.Comma ∷ sign.OpenParen ∷ sign.CloseParen ∷ sign.OpenBracket ∷ sign.CloseBracket ∷ sign.OpenBrace ∷ sign.CloseBrace
    ∷ sign.Question ∷ sign.Colon ∷ sign.Set ∷ sign.AddSet ∷ sign.SubtractSet ∷ sign.MultiplySet ∷ sign.DivideSet ∷ sign.RemainderSet
    ∷ sign.OrMark ∷ sign.AndMark ∷ sign.BitOr ∷ sign.BitXor ∷ sign.BitAnd ∷ sign.Equal ∷ sign.NotEqual ∷ sign.Less
    ∷ sign.AtMost ∷ sign.Greater ∷ sign.AtLeast ∷ sign.ShiftLeft ∷ sign.ShiftRight ∷ sign.Plus ∷ sign.Minus ∷ sign.Star
    ∷ sign.Slash ∷ sign.Percent ∷ sign.Not ∷ sign.Complement ∷ sign.Increment ∷ sign.Decrement ∷ []

-- How a mark is spelled.
abbrev pub mark_text : Sign → List ℕ
mark_text sign.Semicolon = codes ";"
mark_text sign.Comma = codes ","
mark_text sign.OpenParen = codes "("
mark_text sign.CloseParen = codes ")"
mark_text sign.OpenBracket = codes "["
mark_text sign.CloseBracket = codes "]"
mark_text sign.OpenBrace = codes "{"
mark_text sign.CloseBrace = codes "}"
mark_text sign.Question = codes "?"
mark_text sign.Colon = codes ":"
mark_text sign.Set = codes "="
mark_text sign.AddSet = codes "+="
mark_text sign.SubtractSet = codes "-="
mark_text sign.MultiplySet = codes "*="
mark_text sign.DivideSet = codes "/="
mark_text sign.RemainderSet = codes "%="
mark_text sign.OrMark = codes "||"
mark_text sign.AndMark = codes "&&"
mark_text sign.BitOr = codes "|"
mark_text sign.BitXor = codes "^"
mark_text sign.BitAnd = codes "&"
mark_text sign.Equal = codes "=="
mark_text sign.NotEqual = codes "!="
mark_text sign.Less = codes "<"
mark_text sign.AtMost = codes "<="
mark_text sign.Greater = codes ">"
mark_text sign.AtLeast = codes ">="
mark_text sign.ShiftLeft = codes "<<"
mark_text sign.ShiftRight = codes ">>"
mark_text sign.Plus = codes "+"
mark_text sign.Minus = codes "-"
mark_text sign.Star = codes "*"
mark_text sign.Slash = codes "/"
mark_text sign.Percent = codes "%"
mark_text sign.Not = codes "!"
mark_text sign.Complement = codes "~"
mark_text sign.Increment = codes "++"
mark_text sign.Decrement = codes "--"
mark_text _ = []

-- The mark that these bytes spell.
abbrev pub mark_of : List ℕ → Option Sign
mark_of bytes = find (λ m. bytes_eq bytes (mark_text m)) all_marks

-- The sign of a mark.
abbrev pub mark_sign : Option Sign → Sign
mark_sign None = sign.Other
mark_sign (Some s) = s

-- The sign of a token, by its kind and its spelling.
abbrev pub sign_by : TokenKind → List ℕ → Sign
sign_by kind.Name text = sign.Name
sign_by kind.Keyword text = keyword_sign (keyword_of text)
sign_by kind.Number text = sign.Number
sign_by kind.Char text = sign.Char
sign_by kind.Text text = sign.Text
sign_by kind.Mark text = mark_sign (mark_of text)
sign_by kind.End text = sign.End

-- A token as the grammar sees it.
abbrev pub with_sign : Token → Signed
with_sign t = record { sign = sign_by t.kind t.text; text = t.text; line = t.line }
