-- The lines that begin with "#": each is an `#include` line, which is dropped, or a `#define` line (C11 6.10).
use Rattle.std.specs.Prelude.{ℕ, ◌==◌, ◌^◌, Bool, true, false, nat_eq, nat_le, List, [], ◌∷◌, codes, drop, Option, None, Some, if◌then◌else◌}
use Rattle.std.specs.List.{starts_with}
use Rattle.nx_ctok.specs.declared.fault.CKind.{CKind}
use Rattle.nx_ctok.specs.declared.fault.CKind.TheVariants.{BadToken, TooWide}
use Rattle.nx_ctok.specs.declared.token.TokenKind.{TokenKind}
use Rattle.nx_ctok.specs.declared.token.TokenKind.TheVariants as kind
use Rattle.nx_ctok.specs.declared.value.Value.{Value}
use Rattle.nx_ctok.specs.Values.{number_of}
use Rattle.nx_ctok.specs.declared.token.Word.{Word}
use Rattle.nx_ctok.specs.declared.value.Definition.{Definition}
use Rattle.nx_ctok.specs.Longest.{word_at}
use Rattle.nx_ctok.specs.Comments.{after_blanks, gap, all_steps, after_one_ignored, ends_line}

-- Whether a token is a number that 32 bits can't hold.
abbrev pub is_too_wide : TokenKind → List ℕ → Bool
is_too_wide kind.Number text = nat_le (2 ^ 32) (number_of text)
is_too_wide other text = false

-- What was read at the start of a text, and what is left.
abbrev pub Found : Type 0 → Type 0
Found A = Option (A × List ℕ)

-- What follows where something was found.
abbrev pub then_ : {A B : Type 0} → Option A → (A → Option B) → Option B
then_ None next = None
then_ (Some x) next = next x

-- The name that a word is.
abbrev pub name_of : Word → TokenKind → Found (List ℕ)
name_of w kind.Name = Some (w.text, w.rest)
name_of w other = None

-- A name.
unfoldable pub name_at : List ℕ → Found (List ℕ)
name_at bytes = then_ (word_at bytes) (λ w. name_of w w.kind)

-- The value that a word is: a number or a character.
abbrev pub constant_of : Bool → Word → TokenKind → Found Value
constant_of minus w kind.Number = Some (record { minus = minus; kind = kind.Number; text = w.text }, w.rest)
constant_of minus w kind.Char = Some (record { minus = minus; kind = kind.Char; text = w.text }, w.rest)
constant_of minus w other = None

-- A number or a character.
unfoldable pub constant_at : Bool → List ℕ → Found Value
constant_at minus bytes = then_ (word_at bytes) (λ w. constant_of minus w w.kind)

-- A value: a number or a character, directly after a minus sign or without one.
abbrev pub value_at : List ℕ → Found Value
value_at [] = None
value_at (b ∷ bs) = if b == 45 then constant_at true bs else constant_at false (b ∷ bs)

-- A definition, where the line ends after it.
abbrev pub ended : List ℕ → Value → List ℕ → Found Definition
ended name value rest = if ends_line rest then Some (record { name = name; value = value }, rest) else None

-- What stands after "#define" in its line: blanks, a name, blanks, a value, and perhaps blanks.
unfoldable pub definition_at : List ℕ → Found Definition
definition_at bytes =
    then_ (gap bytes) (λ start. then_ (name_at start) (λ name. then_ (gap name.1) (λ next. then_ (value_at next) (λ value.
    ended name.0 value.0 (after_blanks value.1)))))

-- What stands at the start of a text: a space or what counts as one, a token, a definition, or what is refused.
pub data Piece : Type 0 where
  Space : List ℕ → Piece
  Spelled : Word → Piece
  Define : Definition → List ℕ → Piece
  Wrong : CKind → Piece

-- A definition whose number is too wide is refused.
abbrev pub defined : Found Definition → Piece
defined None = Wrong BadToken
defined (Some d) = if is_too_wide d.0.value.kind d.0.value.text then Wrong TooWide else Define d.0 d.1

-- An ignored line is dropped up to its end.
abbrev pub dropped : List ℕ → Piece
dropped rest = if ends_line rest then Space rest else Wrong BadToken

-- A line that begins with "#".
unfoldable pub directive : List ℕ → Piece
directive bytes =
    if starts_with nat_eq bytes (codes "#include") then dropped (all_steps after_one_ignored (drop 8 bytes))
    else if starts_with nat_eq bytes (codes "#define") then defined (definition_at (drop 7 bytes))
    else Wrong BadToken
