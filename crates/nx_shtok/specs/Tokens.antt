-- The tokens of a script.
use Rattle.std.specs.Prelude.{◌≡◌, ℕ, ◌==◌, List, [], ◌∷◌, ◌++◌, Result, Ok, Err, if◌then◌else◌}
use Rattle.nx_base.specs.TextBytes.{is_line_blank}
use Rattle.nx_shtok.specs.declared.fault.ShKind.{ShKind}
use Rattle.nx_shtok.specs.declared.fault.ShKind.TheVariants.{BadByte}
use Rattle.nx_shtok.specs.declared.fault.ShFault.{ShFault}
use Rattle.nx_shtok.specs.declared.fault.ShFault.TheVariants as fault
use Rattle.nx_shtok.specs.declared.token.TokenKind.{TokenKind}
use Rattle.nx_shtok.specs.declared.token.TokenKind.TheVariants as kind
use Rattle.nx_shtok.specs.declared.token.Token.{Token}
use Rattle.nx_shtok.specs.declared.token.Word.{Word}
use Rattle.nx_shtok.specs.Bytes.{is_script_byte, line_at}
use Rattle.nx_shtok.specs.Words.{Spells}

-- What stands where a word could begin: what parts words, a mark, a word, or what is wrong.
pub data Start : Type 0 where
  Skips : List ℕ → Start
  Marks : TokenKind → List ℕ → Start
  Begins : Start
  Wrong : ShKind → Start

-- A comment goes up to the line's end.
unfoldable pub comment : List ℕ → Start
comment [] = Skips []
comment (b ∷ bs) = if b == 10 then Skips (b ∷ bs) else if is_script_byte b then comment bs else Wrong BadByte

-- After a ">": of two the second belongs to the first.
abbrev pub greater : List ℕ → Start
greater [] = Marks kind.Into []
greater (b ∷ bs) = if b == 62 then Marks kind.Append bs else Marks kind.Into (b ∷ bs)

-- What stands at the front of a text.
unfoldable pub start_at : List ℕ → Start
start_at [] = Wrong BadByte
start_at (b ∷ bs) =
    if is_line_blank b then Skips bs
    else if b == 35 then comment bs
    else if b == 10 then Marks kind.Newline bs
    else if b == 59 then Marks kind.Semi bs
    else if b == 38 then Marks kind.And bs
    else if b == 62 then greater bs
    else Begins

-- Tokens before others; a fault stays.
abbrev pub ahead : List Token → Result (List Token) ShFault → Result (List Token) ShFault
ahead ts (Ok us) = Ok (ts ++ us)
ahead ts (Err e) = Err e

-- A token on a line.
abbrev pub token : TokenKind → ℕ → Token
token k line = record { kind = k; line = line }

-- The tokens after the last byte: a newline and the end.
abbrev pub last_tokens : ℕ → List Token
last_tokens line = token kind.Newline line ∷ token kind.End line ∷ []

-- What the rest of a text gives: its tokens with the last ones, or its first fault.
pub data Tokenizes (text : List ℕ) : List ℕ → Result (List Token) ShFault → Type 0 where
  End : Tokenizes text [] (Ok (last_tokens (line_at text [])))
  Refused : (b : ℕ) (bs : List ℕ) (k : ShKind) → start_at (b ∷ bs) ≡ Wrong k → Tokenizes text (b ∷ bs) (Err (fault.Text (line_at text (b ∷ bs)) k))
  Skipped : (bytes rest : List ℕ) (out : Result (List Token) ShFault) → start_at bytes ≡ Skips rest → Tokenizes text rest out → Tokenizes text bytes out
  Marked : (bytes : List ℕ) (k : TokenKind) (rest : List ℕ) (out : Result (List Token) ShFault) → start_at bytes ≡ Marks k rest → Tokenizes text rest out →
      Tokenizes text bytes (ahead (token k (line_at text bytes) ∷ []) out)
  Taken : (bytes : List ℕ) (w : Word) (rest : List ℕ) (out : Result (List Token) ShFault) → start_at bytes ≡ Begins → Spells bytes (Ok (w, rest)) → Tokenizes text rest out →
      Tokenizes text bytes (ahead (token (kind.Word w) (line_at text bytes) ∷ []) out)
  Broken : (bytes : List ℕ) (k : ShKind) (at : List ℕ) → start_at bytes ≡ Begins → Spells bytes (Err (k, at)) → Tokenizes text bytes (Err (fault.Text (line_at text at) k))

-- What a text gives.
abbrev pub HasTokens : List ℕ → Result (List Token) ShFault → Type 0
HasTokens text out = Tokenizes text text out

-- A token that isn't the end.
abbrev pub IsInner : TokenKind → Type 0
IsInner kind.End = ⊥
IsInner other = Unit {0}

-- A list that ends with a newline and its only end.
pub data AreEnded : List Token → Type 0 where
  Last : (line : ℕ) → AreEnded (last_tokens line)
  Next : (t : Token) (ts : List Token) → IsInner t.kind → AreEnded ts → AreEnded (t ∷ ts)
