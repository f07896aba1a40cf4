-- Calls and replies as plain data, and what of a call means something.
use Rattle.std.specs.Prelude.{◌≡◌, ℕ, ◌^◌, ◌<◌, ◌≤◌, min, Bool, true, false, if◌then◌else◌, List, [], ◌∷◌, length}
use Rattle.std.specs.List.{All}
use Rattle.nx_base.specs.declared.calls.Kind.{Kind}
use Rattle.nx_base.specs.declared.calls.Kind.TheVariants.{Word, In, Text, Out, Len, Out4, Out8}
use Rattle.nx_base.specs.ByteLists.{AreBytes}
use Rattle.nx_base.specs.Replies.{FitsCall, next_word, most_moved}

-- a call: its number, the words of its parameters, and the bytes of its inputs
pub record Call : Type 0 where
  pub number : ℕ
  pub words : List ℕ
  pub inputs : List (List ℕ)

-- a reply: the thread that gets it, its value, its error number, and the bytes of its outputs
pub record Reply : Type 0 where
  pub thread : ℕ
  pub value : ℕ
  pub errno : ℕ
  pub outputs : List (List ℕ)

-- what stands at a number of the call table: the kinds of its parameters, and whether the first is a function's entry
pub record Row : Type 0 where
  pub kinds : List Kind
  pub enters : Bool

-- a call table: what stands at each number
abbrev pub Rows : Type 0
Rows = ℕ → Row

abbrev pub is_pointer : Kind → Bool
is_pointer In = true
is_pointer Text = true
is_pointer Out = true
is_pointer Out4 = true
is_pointer Out8 = true
is_pointer Word = false
is_pointer Len = false

-- words, with 0 for each that is a pointer
unfoldable pub plain_words : List Kind → List ℕ → List ℕ
plain_words [] words = []
plain_words (kind ∷ kinds) [] = []
plain_words (kind ∷ kinds) (word ∷ words) = (if is_pointer kind then 0 else word) ∷ plain_words kinds words

-- words, with 0 for an entry
abbrev pub without_entry : Bool → List ℕ → List ℕ
without_entry false words = words
without_entry true [] = []
without_entry true (word ∷ words) = 0 ∷ words

-- a call without the words that mean nothing to the kernel
unfoldable pub meant : Rows → Call → Call
meant rows c = record c { words = without_entry (rows c.number).enters (plain_words (rows c.number).kinds c.words) }

-- a reply fits a call: its value is a word, each output has its room, and outputs are bytes
pub record Fits (rows : Rows) (c : Call) (a : Reply) : Type 0 where
  pub value : a.value < 2 ^ 32
  pub room : FitsCall (rows c.number).kinds c.words a.outputs
  pub bytes : All AreBytes a.outputs

-- a text of a call has at most so many bytes
abbrev pub longest_text : ℕ
longest_text = 260

-- the inputs of parameters of these kinds and words, in their order: of a buffer the first bytes, of a text those before its zero byte
abbrev pub AreInputs : List Kind → List ℕ → List (List ℕ) → Type 0
AreInputs (In ∷ kinds) (word ∷ words) (input ∷ inputs) = (length input ≡ min (next_word words) most_moved) × AreInputs kinds words inputs
AreInputs (Text ∷ kinds) (word ∷ words) (input ∷ inputs) = (length input ≤ longest_text) × AreInputs kinds words inputs
AreInputs (In ∷ kinds) (word ∷ words) [] = ⊥
AreInputs (Text ∷ kinds) (word ∷ words) [] = ⊥
AreInputs (kind ∷ kinds) (word ∷ words) inputs = AreInputs kinds words inputs
AreInputs kinds words inputs = inputs ≡ []

-- a call with the inputs of its row
abbrev pub IsWellFormed : Rows → Call → Type 0
IsWellFormed rows c = AreInputs (rows c.number).kinds c.words c.inputs
