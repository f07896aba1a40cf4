-- The calls of slot code: their words, the bytes that go with them, and where those of a reply are put.
use Rattle.std.specs.Prelude.{ℕ, zero, suc, ◌+◌, ◌*◌, ◌==◌, min, Bool, true, false, not, ◌&&◌, ◌||◌, nat_le, nat_lt, if◌then◌else◌, List, [], ◌∷◌, ◌++◌, length, take, drop, Option, Some, None, get_or, slice_index, slice_set}
use Rattle.nx_base.specs.declared.calls.Kind.{Kind}
use Rattle.nx_base.specs.declared.calls.Kind.TheVariants.{Word, In, Text, Out, Len, Out4, Out8}
use Rattle.nx_base.specs.ByteLists.{put_bytes}
use Rattle.nx_base.specs.Calls.{Row}
use Rattle.nx_base.specs.Copying.{alone, nothing_if}
use Rattle.nx_base.specs.Good.{with_first}
use Rattle.nx_base.specs.Replies.{most_moved}
use Rattle.nx_slot.specs.Objects.{Value, Int, Pointer, Forged, Entry, Object, object_of, bytes_of}

-- The word of a number or of a function. A pointer's is no part of the meaning.
abbrev pub word_of : Value → ℕ
word_of (Int n) = n
word_of (Entry f) = f
word_of (Pointer o at) = 0
word_of (Forged n) = 0

abbrev pub value_at : List Value → ℕ → Value
value_at xs i = get_or xs i (Int 0)

-- The words of a call: those of its arguments, and 0 after them.
abbrev pub words_of : List Value → List ℕ
words_of xs =
    word_of (value_at xs 0) ∷ word_of (value_at xs 1) ∷ word_of (value_at xs 2) ∷ word_of (value_at xs 3) ∷ word_of (value_at xs 4) ∷ word_of (value_at xs 5) ∷ []

-- Where bytes of an object begin at a place.
abbrev pub from_place : Object → ℕ → ℕ
from_place o at = bytes_of o.width * at

-- A buffer of n bytes lies in one object, which may change where it is to be written. One of no bytes lies anywhere.
unfoldable pub lies_in : List Object → Bool → Value → ℕ → Bool
lies_in os written (Pointer o at) n =
    (n == 0) || (nat_le (from_place (object_of os o) at + n) (length (object_of os o).bytes) && not (written && (object_of os o).fixed))
lies_in os written (Int k) n = n == 0
lies_in os written (Forged k) n = n == 0
lies_in os written (Entry f) n = n == 0

-- The first bytes of a buffer.
unfoldable pub buffer_of : List Object → Value → ℕ → List ℕ
buffer_of os (Pointer o at) n = take n (drop (from_place (object_of os o) at) (object_of os o).bytes)
buffer_of os (Int k) n = []
buffer_of os (Forged k) n = []
buffer_of os (Entry f) n = []

-- The bytes from a place on up to a zero byte, if that is among the first n.
unfoldable pub text_from : List ℕ → ℕ → ℕ → Option (List ℕ)
text_from bytes at zero = None
text_from bytes at (suc n) =
    if nat_lt at (length bytes) then (if slice_index bytes at == 0 then Some [] else with_first (slice_index bytes at) (text_from bytes (at + 1) n)) else None

-- A text has its zero byte in its object, among the first 256.
unfoldable pub text_of : List Object → Value → Option (List ℕ)
text_of os (Pointer o at) = text_from (object_of os o).bytes (from_place (object_of os o) at) 256
text_of os (Int k) = None
text_of os (Forged k) = None
text_of os (Entry f) = None

-- What a number is wanted for, and what a buffer of so many bytes gives.
abbrev pub with_int : Value → (ℕ → Option (List (List ℕ))) → Option (List (List ℕ))
with_int (Int n) go = go n
with_int (Pointer o at) go = None
with_int (Forged n) go = None
with_int (Entry f) go = None

abbrev pub input_if : Bool → List ℕ → Option (List (List ℕ))
input_if true bytes = Some (bytes ∷ [])
input_if false bytes = None

-- The input of one argument, by its kind and the next argument: none, or its bytes. None where it isn't what the kind
-- asks for. At most 4,096 bytes of a buffer are moved, and its whole length lies in its object.
unfoldable pub input_of : List Object → Kind → Value → Value → Option (List (List ℕ))
input_of os Word x next = with_int x (λ n. Some [])
input_of os Len x next = with_int x (λ n. Some [])
input_of os In x next = with_int next (λ n. input_if (lies_in os false x n) (buffer_of os x (min n most_moved)))
input_of os Text x next = alone (text_of os x)
input_of os Out x next = with_int next (λ n. nothing_if (lies_in os true x n))
input_of os Out4 x next = nothing_if (lies_in os true x 4)
input_of os Out8 x next = nothing_if (lies_in os true x 8)

abbrev pub and_inputs : Option (List (List ℕ)) → Option (List (List ℕ)) → Option (List (List ℕ))
and_inputs None more = None
and_inputs (Some inputs) None = None
and_inputs (Some inputs) (Some more) = Some (inputs ++ more)

-- The inputs of all arguments, which are as many as the parameters.
unfoldable pub inputs_of : List Object → List Kind → List Value → Option (List (List ℕ))
inputs_of os [] [] = Some []
inputs_of os [] (x ∷ xs) = None
inputs_of os (kind ∷ kinds) [] = None
inputs_of os (kind ∷ kinds) (x ∷ xs) = and_inputs (input_of os kind x (value_at xs 0)) (inputs_of os kinds xs)

-- A call that enters a function has it as its first argument, which counts as a number there. No other call has one.
abbrev pub without_entry : Bool → List Value → Option (List Value)
without_entry false xs = Some xs
without_entry true [] = None
without_entry true (Entry f ∷ xs) = Some (Int f ∷ xs)
without_entry true (Int n ∷ xs) = None
without_entry true (Pointer o at ∷ xs) = None
without_entry true (Forged n ∷ xs) = None

abbrev pub inputs_by : List Object → List Kind → Option (List Value) → Option (List (List ℕ))
inputs_by os kinds None = None
inputs_by os kinds (Some xs) = inputs_of os kinds xs

-- The inputs of a call to a row of the call table.
unfoldable pub call_inputs : Row → List Object → List Value → Option (List (List ℕ))
call_inputs row os xs = inputs_by os row.kinds (without_entry row.enters xs)

-- The pointers at which outputs are put, in their order.
abbrev pub outputs_of : List Kind → List Value → List Value
outputs_of (Out ∷ kinds) (x ∷ xs) = x ∷ outputs_of kinds xs
outputs_of (Out4 ∷ kinds) (x ∷ xs) = x ∷ outputs_of kinds xs
outputs_of (Out8 ∷ kinds) (x ∷ xs) = x ∷ outputs_of kinds xs
outputs_of (kind ∷ kinds) (x ∷ xs) = outputs_of kinds xs
outputs_of kinds xs = []

-- An object with bytes put at a place, where they lie in it and it may change.
unfoldable pub with_bytes : Object → ℕ → List ℕ → Object
with_bytes o at new =
    if nat_le (from_place o at + length new) (length o.bytes) && not o.fixed then record o { bytes = put_bytes o.bytes (from_place o at) new } else o

abbrev pub with_output : List Object → Value → List ℕ → List Object
with_output os (Pointer o at) new = slice_set os o (with_bytes (object_of os o) at new)
with_output os (Int n) new = os
with_output os (Forged n) new = os
with_output os (Entry f) new = os

-- The outputs of a reply are put at their pointers.
abbrev pub with_outputs : List Object → List Value → List (List ℕ) → List Object
with_outputs os (x ∷ xs) (output ∷ outputs) = with_outputs (with_output os x output) xs outputs
with_outputs os xs outputs = os
