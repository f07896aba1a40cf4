-- A call taken from registers and a view, and outputs of a reply put into a view.
use Rattle.std.specs.Prelude.{ℕ, ◌+◌, min, Bool, true, false, if◌then◌else◌, List, [], ◌∷◌, ◌++◌, Option, Some, None, Result, Ok, Err}
use Rattle.nx_base.specs.declared.regs.Regs.{Regs}
use Rattle.nx_base.specs.declared.access.Access.TheVariants.{Load, Store}
use Rattle.nx_base.specs.declared.calls.Kind.{Kind}
use Rattle.nx_base.specs.declared.calls.Kind.TheVariants.{Word, In, Text, Out, Len, Out4, Out8}
use Rattle.nx_base.specs.Registers.{reg}
use Rattle.nx_base.specs.Replies.{next_word, most_moved}
use Rattle.nx_base.specs.Views.{View, store_bytes}
use Rattle.nx_base.specs.Calls.{Call, Rows}
use Rattle.nx_base.specs.Good.{is_good, shown_bytes, good_text}

-- the words of a call's parameters stand in the registers from 11 on
unfoldable pub words_from : Regs → ℕ → List Kind → List ℕ
words_from r k [] = []
words_from r k (kind ∷ kinds) = reg r k ∷ words_from r (k + 1) kinds

abbrev pub alone : Option (List ℕ) → Option (List (List ℕ))
alone None = None
alone (Some xs) = Some (xs ∷ [])

abbrev pub nothing_if : Bool → Option (List (List ℕ))
nothing_if true = Some []
nothing_if false = None

-- the input of one parameter, whose word and whose next word these are: none, or its bytes; None where its pointer is bad.
-- The whole length of a buffer is tested, and at most 4,096 bytes are moved; the zero byte of a text is among its first 256
unfoldable pub input_of : View → Kind → ℕ → ℕ → Option (List (List ℕ))
input_of v Word at n = Some []
input_of v Len at n = Some []
input_of v In at n = if is_good v at n Load then Some (shown_bytes v at (min n most_moved) ∷ []) else None
input_of v Text at n = alone (good_text v at 256)
input_of v Out at n = nothing_if (is_good v at n Store)
input_of v Out4 at n = nothing_if (is_good v at 4 Store)
input_of v Out8 at n = nothing_if (is_good v at 8 Store)

abbrev pub and_inputs : ℕ → Option (List (List ℕ)) → Result (List (List ℕ)) ℕ → Result (List (List ℕ)) ℕ
and_inputs k None more = Err k
and_inputs k (Some xs) (Ok more) = Ok (xs ++ more)
and_inputs k (Some xs) (Err j) = Err j

-- the inputs of all parameters, or the place of the first whose pointer is bad
unfoldable pub inputs_of : View → ℕ → List Kind → List ℕ → Result (List (List ℕ)) ℕ
inputs_of v k [] words = Ok []
inputs_of v k (kind ∷ kinds) [] = Ok []
inputs_of v k (kind ∷ kinds) (word ∷ words) = and_inputs k (input_of v kind word (next_word words)) (inputs_of v (k + 1) kinds words)

abbrev pub as_call : ℕ → List ℕ → Result (List (List ℕ)) ℕ → Result Call ℕ
as_call number words (Ok inputs) = Ok (record { number = number; words = words; inputs = inputs })
as_call number words (Err k) = Err k

-- the call that registers and a view make, or its first bad parameter
unfoldable pub cook : Rows → View → Regs → Result Call ℕ
cook rows v r = let kinds = (rows (reg r 10)).kinds in as_call (reg r 10) (words_from r 11 kinds) (inputs_of v 0 kinds (words_from r 11 kinds))

abbrev pub stored_or : View → Result View ℕ → View
stored_or v (Ok new) = new
stored_or v (Err cause) = v

-- bytes put one by one, each where it may be
unfoldable pub with_stored : View → ℕ → List ℕ → View
with_stored v at [] = v
with_stored v at (x ∷ xs) = with_stored (stored_or v (store_bytes v at 1 x)) (at + 1) xs

abbrev pub is_output : Kind → Bool
is_output Out = true
is_output Out4 = true
is_output Out8 = true
is_output Word = false
is_output In = false
is_output Text = false
is_output Len = false

-- outputs, each at the word of its parameter
unfoldable pub with_outputs : View → List Kind → List ℕ → List (List ℕ) → View
with_outputs v [] words outputs = v
with_outputs v (kind ∷ kinds) [] outputs = v
with_outputs v (kind ∷ kinds) (word ∷ words) [] = v
with_outputs v (kind ∷ kinds) (word ∷ words) (output ∷ outputs) =
    if is_output kind then with_outputs (with_stored v word output) kinds words outputs else with_outputs v kinds words (output ∷ outputs)

-- the view of a thread that waits with these registers, after a reply with these outputs
unfoldable pub deliver : Rows → View → Regs → List (List ℕ) → View
deliver rows v r outputs = let kinds = (rows (reg r 10)).kinds in with_outputs v kinds (words_from r 11 kinds) outputs
