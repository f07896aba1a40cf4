-- The words that the grammar keeps for itself, and what a token is where a command begins.
use Rattle.std.specs.Prelude.{ℕ, ◌==◌, Bool, true, false, ◌&&◌, not, List, [], ◌∷◌, codes, Option, None, Some}
use Rattle.std.specs.List.{find}
use denote.Enum.Bare.{sameb}
use Rattle.nx_shtok.specs.declared.part.Part.{Part}
use Rattle.nx_shtok.specs.declared.part.Part.TheVariants.{Byte, Status, Name}
use Rattle.nx_shtok.specs.declared.token.TokenKind.{TokenKind}
use Rattle.nx_shtok.specs.declared.token.TokenKind.TheVariants as mark
use Rattle.nx_shtok.specs.declared.token.Token.{Token}
use Rattle.nx_shtok.specs.declared.token.Word.{Word}
use Rattle.nx_shtree.specs.declared.keyword.Keyword.{Keyword}
use Rattle.nx_shtree.specs.declared.keyword.Keyword.TheVariants as key
use Rattle.nx_shtree.specs.contracts.keyword.Keyword.{the_type}

-- How a reserved word is spelled.
abbrev pub keyword_text : Keyword → List ℕ
keyword_text key.If = codes "if"
keyword_text key.Then = codes "then"
keyword_text key.Else = codes "else"
keyword_text key.Fi = codes "fi"
keyword_text key.While = codes "while"
keyword_text key.Until = codes "until"
keyword_text key.Do = codes "do"
keyword_text key.Done = codes "done"

unfoldable pub all_keywords : List Keyword
all_keywords = key.If ∷ key.Then ∷ key.Else ∷ key.Fi ∷ key.While ∷ key.Until ∷ key.Do ∷ key.Done ∷ []

-- Whether a part is this byte.
abbrev pub is_byte : ℕ → Part → Bool
is_byte b (Byte c) = c == b
is_byte b Status = false
is_byte b (Name name) = false

-- Whether parts are exactly these bytes.
abbrev pub are_bytes : List ℕ → List Part → Bool
are_bytes [] [] = true
are_bytes [] (p ∷ ps) = false
are_bytes (b ∷ bs) [] = false
are_bytes (b ∷ bs) (p ∷ ps) = is_byte b p && are_bytes bs ps

-- Whether a word is this reserved word: unquoted, and of exactly its bytes.
abbrev pub spells : Word → Keyword → Bool
spells w k = not w.quoted && are_bytes (keyword_text k) w.parts

-- The reserved word that a word is.
unfoldable pub keyword_of : Word → Option Keyword
keyword_of w = find (spells w) all_keywords

-- What a token is where a command begins: a reserved word, the first word of a command, a newline or ";", the end, or another token.
pub data Head : Type 0 where
  Reserved : Keyword → Head
  First : Word → Head
  Separator : Head
  Last : Head
  Other : Head

abbrev pub word_head : Word → Option Keyword → Head
word_head w None = First w
word_head w (Some k) = Reserved k

abbrev pub kind_head : TokenKind → Head
kind_head (mark.Word w) = word_head w (keyword_of w)
kind_head mark.Newline = Separator
kind_head mark.Semi = Separator
kind_head mark.And = Other
kind_head mark.Into = Other
kind_head mark.Append = Other
kind_head mark.End = Last

abbrev pub head_of : Token → Head
head_of t = kind_head t.kind

-- Whether it is this reserved word.
abbrev pub is_reserved : Keyword → Head → Bool
is_reserved k (Reserved j) = sameb the_type j k
is_reserved k (First w) = false
is_reserved k Separator = false
is_reserved k Last = false
is_reserved k Other = false

abbrev pub is_keyword : Keyword → Token → Bool
is_keyword k t = is_reserved k (head_of t)

-- Whether it is a newline or ";".
abbrev pub parts_commands : Head → Bool
parts_commands (Reserved k) = false
parts_commands (First w) = false
parts_commands Separator = true
parts_commands Last = false
parts_commands Other = false

abbrev pub is_separator : Token → Bool
is_separator t = parts_commands (head_of t)
