-- The tokens of a text.
use Rattle.std.specs.Prelude.{◌≡◌, ℕ, ◌==◌, Bool, true, false, ◌&&◌, ◌||◌, nat_lt, List, [], ◌∷◌, ◌++◌, codes, Option, None, Some, Result, Ok, Err, if◌then◌else◌}
use Rattle.std.specs.Str.{bytes_eq}
use Rattle.nx_base.specs.TextBytes.{is_line_blank}
use Rattle.nx_ctok.specs.declared.fault.CKind.{CKind}
use Rattle.nx_ctok.specs.declared.fault.CKind.TheVariants.{BadToken, TooWide}
use Rattle.nx_ctok.specs.declared.fault.CFault.{CFault}
use Rattle.nx_ctok.specs.declared.fault.CFault.TheVariants as fault
use Rattle.nx_ctok.specs.declared.token.TokenKind.{TokenKind}
use Rattle.nx_ctok.specs.declared.token.TokenKind.TheVariants as kind
use Rattle.nx_ctok.specs.declared.token.Token.{Token}
use Rattle.nx_ctok.specs.declared.token.Word.{Word}
use Rattle.nx_ctok.specs.declared.value.Value.{Value}
use Rattle.nx_ctok.specs.declared.value.Definition.{Definition}
use Rattle.nx_ctok.specs.Spellings.{kind_of}
use Rattle.nx_ctok.specs.Longest.{word_at}
use Rattle.nx_ctok.specs.Comments.{newlines, line_at, Comment, Absent, Open, Closed, comment_at}
use Rattle.nx_ctok.specs.Directives.{is_too_wide, Piece, Space, Spelled, Define, Wrong, directive}
use Rattle.nx_ctok.specs.declared.predefined.Predefined.{Predefined}
use Rattle.nx_ctok.specs.Predefined.{number_text, predefined_of}

-- A word that is a token, unless it is a number that is too wide.
abbrev pub checked : Option Word → Piece
checked None = Wrong BadToken
checked (Some w) = if is_too_wide w.kind w.text then Wrong TooWide else Spelled w

-- Whether "#" stands here.
abbrev pub is_hash : List ℕ → Bool
is_hash [] = false
is_hash (b ∷ bs) = b == 35

-- After blanks and comments: a line's first "#" makes it a directive, and all else is a token.
abbrev pub uncommented : Bool → List ℕ → Piece
uncommented fresh bytes = if fresh && is_hash bytes then directive bytes else checked (word_at bytes)

-- A comment counts as a space, and one that is never closed is a bad token.
abbrev pub commented : Bool → List ℕ → Comment → Piece
commented fresh bytes Absent = uncommented fresh bytes
commented fresh bytes Open = Wrong BadToken
commented fresh bytes (Closed rest) = Space rest

-- What stands at the start of a text; fresh: nothing but blanks and comments stands before it on its line.
unfoldable pub piece_at : Bool → List ℕ → Piece
piece_at fresh [] = Wrong BadToken
piece_at fresh (b ∷ bs) = if b == 10 || is_line_blank b then Space bs else commented fresh (b ∷ bs) (comment_at (b ∷ bs))

-- The value of each name that is defined so far.
abbrev pub Definitions : Type 0
Definitions = List ℕ → Option Value

-- A predefined name stands for its number.
abbrev pub predefined : Option Predefined → Option Value
predefined None = None
predefined (Some p) = Some (record { minus = false; kind = kind.Number; text = number_text p })

-- Before a text's first line the predefined names are defined.
unfoldable pub at_first : Definitions
at_first name = predefined (predefined_of name)

-- A definition more: of two for one name the latest counts.
unfoldable pub with_definition : Definitions → Definition → Definitions
with_definition values d name = if bytes_eq name d.name then Some d.value else values name

-- A minus sign where a value has one.
abbrev pub minus_tokens : ℕ → Bool → List Token
minus_tokens line true = record { kind = kind.Mark; text = codes "-"; line = line } ∷ []
minus_tokens line false = []

-- The tokens of a value that stands for a name on a line.
abbrev pub value_tokens : ℕ → Value → List Token
value_tokens line v = minus_tokens line v.minus ++ record { kind = v.kind; text = v.text; line = line } ∷ []

-- A word on a line is replaced by the value that it stands for, if it stands for one.
abbrev pub replaced : ℕ → TokenKind → List ℕ → Option Value → List Token
replaced line k text None = record { kind = k; text = text; line = line } ∷ []
replaced line k text (Some v) = value_tokens line v

-- What a word stands for: a name may be defined, and no other word is.
abbrev pub meaning : Definitions → TokenKind → List ℕ → Option Value
meaning values kind.Name text = values text
meaning values other text = None

-- Tokens before others; a fault stays.
abbrev pub ahead : List Token → Result (List Token) CFault → Result (List Token) CFault
ahead ts (Ok us) = Ok (ts ++ us)
ahead ts (Err e) = Err e

-- What the rest of a text gives: its tokens with the end, or its first fault.
-- fresh: nothing but blanks and comments stands before the rest on its line. values: the names defined before it.
pub data Tokenizes (text : List ℕ) : Bool → Definitions → List ℕ → Result (List Token) CFault → Type 0 where
  End : (fresh : Bool) (values : Definitions) → Tokenizes text fresh values [] (Ok (record { kind = kind.End; text = []; line = line_at text [] } ∷ []))
  Refused : (fresh : Bool) (values : Definitions) (b : ℕ) (bs : List ℕ) (k : CKind) → piece_at fresh (b ∷ bs) ≡ Wrong k →
      Tokenizes text fresh values (b ∷ bs) (Err (fault.Text (line_at text (b ∷ bs)) k))
  Skipped : (fresh : Bool) (values : Definitions) (bytes rest : List ℕ) (out : Result (List Token) CFault) → piece_at fresh bytes ≡ Space rest →
      Tokenizes text (fresh || nat_lt (newlines rest) (newlines bytes)) values rest out → Tokenizes text fresh values bytes out
  Taken : (fresh : Bool) (values : Definitions) (bytes : List ℕ) (w : Word) (out : Result (List Token) CFault) → piece_at fresh bytes ≡ Spelled w →
      Tokenizes text false values w.rest out → Tokenizes text fresh values bytes (ahead (replaced (line_at text bytes) w.kind w.text (meaning values w.kind w.text)) out)
  Defined : (fresh : Bool) (values : Definitions) (bytes rest : List ℕ) (d : Definition) (out : Result (List Token) CFault) → piece_at fresh bytes ≡ Define d rest →
      Tokenizes text false (with_definition values d) rest out → Tokenizes text fresh values bytes out

-- What a text gives.
abbrev pub HasTokens : List ℕ → Result (List Token) CFault → Type 0
HasTokens text out = Tokenizes text true at_first text out

-- A token that is not the end, spelled as its kind is.
abbrev pub IsSpelled : Token → Type 0
IsSpelled t = kind_of t.text ≡ Some t.kind

-- A list that ends with its only end, and each token before it is spelled as its kind is.
pub data AreEnded : List Token → Type 0 where
  Last : (line : ℕ) → AreEnded (record { kind = kind.End; text = []; line = line } ∷ [])
  Next : (t : Token) (ts : List Token) → IsSpelled t → AreEnded ts → AreEnded (t ∷ ts)
