-- The bytes that go with a call of the kernel, and those that come with its reply.
use Rattle.std.specs.Prelude.{ℕ, zero, suc, ◌+◌, ◌*◌, ◌==◌, min, Bool, true, false, not, ◌&&◌, List, [], ◌∷◌, ◌++◌, length, take, drop, slice_index, slice_set, nat_lt, nat_le, if◌then◌else◌, Option, Some, None, option_map, codes, Result, Ok, Err}
use Rattle.std.specs.Str.{bytes_eq}
use Rattle.nx_base.specs.ByteLists.{put_bytes}
use Rattle.nx_base.specs.Replies.{most_moved}
use Rattle.nx_base.specs.declared.calls.Kind.{Kind}
use Rattle.nx_base.specs.declared.calls.Kind.TheVariants.{Word, In, Text, Out, Len, Out4, Out8}
use Rattle.nx_checked.specs.declared.checked.UsedCall.{UsedCall}
use Rattle.nx_cobjects.specs.declared.value.Name.TheVariants as name
use Rattle.nx_cobjects.specs.declared.value.Value.{Value}
use Rattle.nx_cobjects.specs.declared.value.Value.TheVariants.{Int, Point, Forged, Entry}
use Rattle.nx_cobjects.specs.declared.value.WrongKind.{WrongKind}
use Rattle.nx_cobjects.specs.Values.{number_in, size_of, word_in}
use Rattle.nx_cobjects.specs.Groups.{Object, object}
use Rattle.nx_cobjects.specs.Memory.{Memory, memory, object_in, object_at, value_in}

-- The first bytes, at most 4,096, of a buffer of n bytes that begins at an element; none where it doesn't lie in the object.
abbrev pub part_of : Object → ℕ → ℕ → Option (List ℕ)
part_of o at n =
    if nat_le (size_of o.element * at + n) (length o.bytes) then Some (take (min n most_moved) (drop (size_of o.element * at) o.bytes)) else None

-- The same at a value. A buffer of no bytes lies anywhere.
abbrev pub buffer : Memory → Value → ℕ → Option (List ℕ)
buffer m v zero = Some []
buffer m (Point o at) (suc n) = part_of (object_at m o) at (suc n)
buffer m v (suc n) = None

-- A buffer that is written: none lies in a text, which stays as it is.
abbrev pub is_text : Value → Bool
is_text (Point (name.Text i) at) = true
is_text (Point (name.Array i) at) = false
is_text (Point (name.Own i) at) = false
is_text (Int n) = false
is_text (Forged n) = false
is_text (Entry f) = false

abbrev pub room : Memory → Value → ℕ → Option (List ℕ)
room m v n = if is_text v && not (n == 0) then None else buffer m v n

-- How many bytes stand from a place on before the first zero byte, if that is among the first n.
abbrev pub text_length : List ℕ → ℕ → ℕ → Option ℕ
text_length bytes at zero = None
text_length bytes at (suc n) =
    if nat_lt at (length bytes) then (if slice_index bytes at == 0 then Some 0 else option_map suc (text_length bytes (at + 1) n)) else None

-- The bytes of a text that begins at an element: those before its zero byte, which is among its first 256.
abbrev pub text_of : Object → ℕ → Option (List ℕ)
text_of o at =
    option_map (λ n. take n (drop (size_of o.element * at) o.bytes)) (text_length o.bytes (size_of o.element * at) 256)

abbrev pub text : Memory → Value → Option (List ℕ)
text m (Point o at) = text_of (object_at m o) at
text m v = None

-- Inputs with one more, if it is there; and the inputs, if a buffer is there.
abbrev pub with_input : List (List ℕ) → Option (List ℕ) → Option (List (List ℕ))
with_input done (Some bytes) = Some (done ++ bytes ∷ [])
with_input done None = None

abbrev pub where_there : List (List ℕ) → Option (List ℕ) → Option (List (List ℕ))
where_there done (Some bytes) = Some done
where_there done None = None

-- What a number is wanted for.
abbrev pub on_number : {A : Type 0} → Result ℕ WrongKind → (ℕ → Option A) → Option A
on_number (Ok n) go = go n
on_number (Err kind) go = None

-- Inputs with that of a parameter, by its kind, its value and the next parameter's; none where it isn't what the kind
-- asks for.
abbrev pub input_after : Memory → List (List ℕ) → Kind → Value → Value → Option (List (List ℕ))
input_after m done Word v next = on_number (number_in v) (λ n. Some done)
input_after m done Len v next = on_number (number_in v) (λ n. Some done)
input_after m done In v next = on_number (number_in next) (λ n. with_input done (buffer m v n))
input_after m done Text v next = with_input done (text m v)
input_after m done Out v next = on_number (number_in next) (λ n. where_there done (room m v n))
input_after m done Out4 v next = where_there done (room m v 4)
input_after m done Out8 v next = where_there done (room m v 8)

abbrev pub and_then : Option (List (List ℕ)) → (List (List ℕ) → Option (List (List ℕ))) → Option (List (List ℕ))
and_then (Some done) go = go done
and_then None go = None

-- Inputs with those of all parameters, in their order.
abbrev pub inputs_after : Memory → List (List ℕ) → List Kind → List Value → Option (List (List ℕ))
inputs_after m done [] vs = Some done
inputs_after m done (kind ∷ kinds) [] = Some done
inputs_after m done (kind ∷ kinds) (v ∷ vs) =
    and_then (input_after m done kind v (value_in vs 0)) (λ done. inputs_after m done kinds vs)

-- The call that starts a thread has a function as its first argument, which counts as its place there. No other call has one.
unfoldable pub enters : UsedCall → Bool
enters c = bytes_eq c.name (codes "nx_thread")

abbrev pub inputs_by : Memory → Bool → List Kind → List Value → Option (List (List ℕ))
inputs_by m false kinds vs = inputs_after m [] kinds vs
inputs_by m true kinds [] = None
inputs_by m true kinds (Entry f ∷ vs) = inputs_after m [] kinds (Int f ∷ vs)
inputs_by m true kinds (Int n ∷ vs) = None
inputs_by m true kinds (Point o at ∷ vs) = None
inputs_by m true kinds (Forged n ∷ vs) = None

abbrev pub inputs_of : Memory → UsedCall → List Value → Option (List (List ℕ))
inputs_of m c vs = inputs_by m (enters c) c.kinds vs

-- The pointers at which outputs are put, in their order.
abbrev pub outputs_of : List Kind → List Value → List Value
outputs_of (Out ∷ kinds) (v ∷ vs) = v ∷ outputs_of kinds vs
outputs_of (Out4 ∷ kinds) (v ∷ vs) = v ∷ outputs_of kinds vs
outputs_of (Out8 ∷ kinds) (v ∷ vs) = v ∷ outputs_of kinds vs
outputs_of (kind ∷ kinds) (v ∷ vs) = outputs_of kinds vs
outputs_of kinds vs = []

-- The words of a call: those of its values, and 0 after them.
abbrev pub words_of : List Value → List ℕ
words_of vs =
    word_in (value_in vs 0) ∷ word_in (value_in vs 1) ∷ word_in (value_in vs 2) ∷ word_in (value_in vs 3) ∷ word_in (value_in vs 4) ∷ word_in (value_in vs 5) ∷ []

-- An object with bytes put at an element, where they lie in it.
abbrev pub with_bytes : Object → ℕ → List ℕ → Object
with_bytes o at new =
    if nat_le (size_of o.element * at + length new) (length o.bytes) then object o.element (put_bytes o.bytes (size_of o.element * at) new) else o

abbrev pub with_bytes_in : List Object → ℕ → ℕ → List ℕ → List Object
with_bytes_in os i at new = slice_set os i (with_bytes (object_in os i) at new)

-- An output is put at a pointer.
abbrev pub with_output : Memory → Value → List ℕ → Memory
with_output m (Point (name.Array i) at) new =
    memory (record { scalars = m.group.scalars; arrays = with_bytes_in m.group.arrays i at new; texts = m.group.texts }) m.own
with_output m (Point (name.Own i) at) new = memory m.group (with_bytes_in m.own i at new)
with_output m v new = m

-- The outputs of a reply, in the order of the parameters.
abbrev pub replied : Memory → List Value → List ℕ → List ℕ → Memory
replied m [] first second = m
replied m (v ∷ []) first second = with_output m v first
replied m (v ∷ w ∷ vs) first second = with_output (with_output m v first) w second
