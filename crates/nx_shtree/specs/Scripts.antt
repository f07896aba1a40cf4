-- What a text gives: its script, or its first fault.
use Rattle.std.specs.Prelude.{◌≡◌, ℕ, List, [], ◌∷◌, Result, Ok, Err}
use Rattle.nx_grammar.specs.declared.kind.Kind.{Kind}
use Rattle.nx_grammar.specs.declared.kind.Kind.TheVariants as kind
use Rattle.nx_grammar.specs.Faults.{IsFault}
use Rattle.nx_shtok.specs.declared.fault.ShKind.{ShKind}
use Rattle.nx_shtok.specs.declared.fault.ShKind.TheVariants.{Syntax, Limit}
use Rattle.nx_shtok.specs.declared.fault.ShFault.{ShFault}
use Rattle.nx_shtok.specs.declared.fault.ShFault.TheVariants.{Memory, Text}
use Rattle.nx_shtok.specs.declared.token.Token.{Token}
use Rattle.nx_shtok.specs.Tokens.{HasTokens}
use Rattle.nx_shtree.specs.Trees.{Item}
use Rattle.nx_shtree.specs.Grammar.{IsScript}

-- How many levels there may be, and how many words in a command.
abbrev pub script_limit : ℕ
script_limit = 32

abbrev pub sh_kind : Kind → ShKind
sh_kind kind.Syntax = Syntax
sh_kind kind.Limit = Limit

-- The line of the first token.
abbrev pub first_line : List Token → ℕ
first_line [] = 0
first_line (t ∷ ts) = t.line

-- The script of its tokens; or the first fault of a token; or else the first token that ends no beginning of a script.
pub data Gives (bytes : List ℕ) : Result (List Item) ShFault → Type 0 where
  Script : (ts : List Token) (xs : List Item) → HasTokens bytes (Ok ts) → IsScript script_limit ts xs → Gives bytes (Ok xs)
  NoTokens : (line : ℕ) (k : ShKind) → HasTokens bytes (Err (Text line k)) → Gives bytes (Err (Text line k))
  Refused : (ts rest : List Token) (k : Kind) → HasTokens bytes (Ok ts) → IsFault IsScript script_limit ts k rest → Gives bytes (Err (Text (first_line rest) (sh_kind k)))

-- A fault is the text's, unless memory ran out.
abbrev pub Faults : List ℕ → ShFault → Type 0
Faults bytes Memory = Unit {0}
Faults bytes (Text line k) = Gives bytes (Err (Text line k))

-- What was answered is what the text gives, unless memory ran out.
abbrev pub IsAnswer : List ℕ → Result (List Item) ShFault → Type 0
IsAnswer bytes (Ok xs) = Gives bytes (Ok xs)
IsAnswer bytes (Err e) = Faults bytes e

-- A fault that was answered is this, unless memory ran out.
abbrev pub IsFaultGiven : ShFault → Result (List Item) ShFault → Type 0
IsFaultGiven Memory out = Unit {0}
IsFaultGiven (Text line k) out = out ≡ Err (Text line k)

-- This was answered, unless memory ran out.
abbrev pub IsGiven : Result (List Item) ShFault → Result (List Item) ShFault → Type 0
IsGiven (Ok xs) out = out ≡ Ok xs
IsGiven (Err e) out = IsFaultGiven e out

-- A fault is that of the tokens, unless memory ran out.
abbrev pub FaultOf : List Token → ShFault → Type 0
FaultOf ts Memory = Unit {0}
FaultOf ts (Text line k) = (rest : List Token) × (why : Kind) × IsFault IsScript script_limit ts why rest × (line ≡ first_line rest) × (k ≡ sh_kind why)

-- What was answered is the script of the tokens, or their fault.
abbrev pub IsAnswerOf : List Token → Result (List Item) ShFault → Type 0
IsAnswerOf ts (Ok xs) = IsScript script_limit ts xs
IsAnswerOf ts (Err e) = FaultOf ts e
