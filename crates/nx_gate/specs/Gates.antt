-- The gates of a call table, and how they are listed.
use Rattle.std.specs.Prelude.{◌≡◌, ◌≢◌, ℕ, ◌+◌, ◌<◌, ◌≤◌, All, AllPairs, slice_index_or, ◌==◌, List, [], ◌∷◌, ◌++◌, length, map, codes, Option}
use Rattle.std.specs.List.{find, flat_map}
use Rattle.std.specs.Fmt.{decimal}
use Rattle.std.specs.Int.{w32, to_be_bytes}
use Rattle.hex.specs.Hex.{encode_lower}
use Rattle.nx_base.specs.declared.calls.Kind.{Kind}
use Rattle.nx_base.specs.declared.calls.Kind.TheVariants.{Word, In, Text, Out, Len, Out4, Out8}
use Rattle.nx_base.specs.KernelCalls.{call_named}
use Rattle.nx_calls.specs.declared.row.CallRow.{CallRow}
use Rattle.nx_calls.specs.Rows.{HasKinds}
use Rattle.nx_rv.specs.Table.{encode_of}
use Rattle.nx_gate.specs.declared.gate.Gate.{Gate}
use Rattle.nx_gate.specs.Proxies.{proxy_of}

-- the gate of a row has its fields
abbrev pub gate_of : CallRow → Gate
gate_of row = record { name = row.name; number = row.number; kinds = row.kinds; returns = row.returns; kernel = row.kernel }

-- the gate of a number, if there is one
abbrev pub gate_numbered : ℕ → List Gate → Option Gate
gate_numbered number gates = find (λ g. g.number == number) gates

-- the numbers of gates are from 16 to 527
abbrev pub AreSmall : List Gate → Type 0
AreSmall gates = All (λ gate. (16 ≤ gate.number) × (gate.number < 528)) gates

-- what holds of every gate: its call is the kernel's of its name, and its kinds fit that call, or are all words where the kernel has none
pub record IsGate (gate : Gate) : Type 0 where
  pub kernel : gate.kernel ≡ call_named gate.name
  pub kinds : HasKinds gate.kernel gate.kinds.items

-- what holds of the gates of a table: there are at most 512, each has the number 16 plus its place, each fits its call, and no two have one name
pub record AreGates (gates : List Gate) : Type 0 where
  pub few : length gates ≤ 512
  pub numbers : (k : ℕ) (d : Gate) → k < length gates → (slice_index_or gates k d).number ≡ 16 + k
  pub fit : All IsGate gates
  pub names : AllPairs (λ a b. a.name ≢ b.name) gates

-- the words of a gate's proxy
abbrev pub words_of : Gate → List ℕ
words_of gate = map encode_of (proxy_of gate.number (length gate.kinds.items))

-- a kind as the listing names it
abbrev pub kind_name : Kind → List ℕ
kind_name Word = codes "word"
kind_name In = codes "in"
kind_name Text = codes "text"
kind_name Out = codes "out"
kind_name Len = codes "len"
kind_name Out4 = codes "out4"
kind_name Out8 = codes "out8"

-- a word in eight lower-case hexadecimal digits
abbrev pub word_text : ℕ → List ℕ
word_text word = encode_lower (to_be_bytes w32 word)

-- texts, each after a space
abbrev pub spaced : List (List ℕ) → List ℕ
spaced [] = []
spaced (text ∷ texts) = 32 ∷ text ++ spaced texts

-- a line of the listing: the number, the name, the kinds and the words
unfoldable pub line_of : Gate → List ℕ
line_of gate = decimal gate.number ++ 32 ∷ gate.name ++ spaced (map kind_name gate.kinds.items) ++ spaced (map word_text (words_of gate)) ++ 10 ∷ []

-- the listing has a line for each gate
abbrev pub listing_of : List Gate → List ℕ
listing_of gates = flat_map line_of gates
