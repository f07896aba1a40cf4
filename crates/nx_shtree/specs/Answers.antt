-- What the answers of the code say.
use Rattle.std.specs.Prelude.{◌≡◌, ℕ, nat_lt, ◌++◌, length, if◌then◌else◌, List, Option, None, Some, Result, Ok, Err, [], ◌∷◌}
use Rattle.nx_grammar.specs.declared.kind.Kind.TheVariants.{Limit}
use Rattle.nx_grammar.specs.Reading.{Out}
use Rattle.nx_shtok.specs.declared.token.TokenKind.{TokenKind}
use Rattle.nx_shtok.specs.declared.token.TokenKind.TheVariants as mark
use Rattle.nx_shtok.specs.declared.token.Token.{Token}
use Rattle.nx_shtok.specs.declared.token.Word.{Word}
use Rattle.nx_shtree.specs.declared.head.Head as code_head
use Rattle.nx_shtree.specs.declared.head.Head.TheVariants as head
use Rattle.nx_shtree.specs.declared.stop.ParseStop.{ParseStop}
use Rattle.nx_shtree.specs.declared.stop.ParseStop.TheVariants as stop
use Rattle.nx_shtok.specs.declared.fault.ShFault.{ShFault}
use Rattle.nx_shtok.specs.declared.fault.ShFault.TheVariants.{Memory, Text}
use Rattle.nx_shtree.specs.Scripts.{first_line, sh_kind}
use Rattle.nx_shtree.specs.Words as words

-- What a token was found to be where a command begins.
abbrev pub head_seen : code_head.Head → words.Head
head_seen (head.Reserved k) = words.Reserved k
head_seen (head.First w) = words.First w.now
head_seen head.Separator = words.Separator
head_seen head.Last = words.Last
head_seen head.Other = words.Other

-- A fault is that of the reading, unless memory ran out.
abbrev pub GivesFault : {Y : Type 0} → ParseStop → Out Token Y → Type 0
GivesFault stop.Memory read = Unit {0}
GivesFault (stop.Fault kind from) read = read ≡ Err (kind, from.now)

-- What a function returned is what the reading gives, unless memory ran out.
abbrev pub Gives : {X Y : Type 0} → (X → Y × List Token) → Result X ParseStop → Out Token Y → Type 0
Gives view (Ok x) read = read ≡ Ok (view x)
Gives view (Err e) read = GivesFault e read

-- A word at the front, and the tokens after it.
abbrev pub word_of : TokenKind → List Token → Option (Word × List Token)
word_of (mark.Word w) ts = Some (w, ts)
word_of _ ts = None

abbrev pub word_at : List Token → Option (Word × List Token)
word_at [] = None
word_at (t ∷ ts) = word_of t.kind ts

-- A word more, where the limit allows one: from these tokens on, with the rest after it.
abbrev pub word_step : ℕ → List Word → Word → List Token → List Token → Out Token (List Word)
word_step m ws w from rest = if nat_lt (length ws) m then Ok (ws ++ w ∷ [], rest) else Err (Limit, from)

-- The answer for a stop.
abbrev pub fault_seen : ParseStop → ShFault
fault_seen stop.Memory = Memory
fault_seen (stop.Fault kind from) = Text (first_line from.now) (sh_kind kind)
