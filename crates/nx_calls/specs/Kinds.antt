-- The kinds of the parameters of a row.
use Rattle.std.specs.Prelude.{ℕ, ◌==◌, Bool, false, ◌||◌, ◌&&◌, if◌then◌else◌, List, [], ◌∷◌, codes, Option, None, Some}
use Rattle.std.specs.List.{list_any}
use Rattle.std.specs.Str.{bytes_eq}
use Rattle.nx_base.specs.declared.calls.Kind.{Kind}
use Rattle.nx_base.specs.declared.calls.Kind.TheVariants.{Word, In, Text, Out, Len, Out4, Out8}
use Rattle.nx_calls.specs.declared.types.CallType.{CallType}

-- a pointer
abbrev pub has_star : List ℕ → Bool
has_star text = list_any (λ b. b == 42) text

-- the number of bytes of a buffer
unfoldable pub is_size : CallType → Bool
is_size t = bytes_eq t.actual (codes "size_t")

-- bytes that a call reads
unfoldable pub is_input : CallType → Bool
is_input t = bytes_eq t.actual (codes "const char *") || bytes_eq t.actual (codes "const void *")

-- bytes that a call writes
unfoldable pub is_output : CallType → Bool
is_output t = bytes_eq t.actual (codes "char *") || bytes_eq t.actual (codes "void *")

-- a text that a call reads
unfoldable pub is_text : CallType → Bool
is_text t = bytes_eq t.actual (codes "const char *")

-- a number that a call writes
unfoldable pub is_number : CallType → Bool
is_number t = bytes_eq t.actual (codes "int *") || bytes_eq t.actual (codes "unsigned int *")

-- two numbers that a call writes
unfoldable pub is_pair : CallType → Bool
is_pair t = bytes_eq t.formal (codes "int [2]") && bytes_eq t.actual (codes "int *")

-- the kind of a type that is no part of a buffer: a pointer of another type has none
unfoldable pub lone_kind : CallType → Option Kind
lone_kind t =
    if is_text t then Some Text
    else if is_pair t then Some Out8
    else if is_number t then Some Out4
    else if has_star t.actual then None
    else Some Word

-- bytes that a call reads or writes
abbrev pub is_buffer : CallType → Bool
is_buffer t = is_input t || is_output t

-- the type beside a parameter passes a test, where there is one
abbrev pub neighbour_is : (CallType → Bool) → Option CallType → Bool
neighbour_is test None = false
neighbour_is test (Some t) = test t

-- the first of the types that follow
abbrev pub first_of : List CallType → Option CallType
first_of [] = None
first_of (t ∷ types) = Some t

-- the kind of a type by the types before and after it: a size after a buffer is its length, and a buffer has a size after it
unfoldable pub kind_of : Option CallType → CallType → Option CallType → Option Kind
kind_of before t after =
    if neighbour_is is_buffer before && is_size t then Some Len
    else if is_input t && neighbour_is is_size after then Some In
    else if is_output t && neighbour_is is_size after then Some Out
    else lone_kind t

-- a kind before others, where each is there
abbrev pub kind_before : Option Kind → Option (List Kind) → Option (List Kind)
kind_before None kinds = None
kind_before (Some kind) None = None
kind_before (Some kind) (Some kinds) = Some (kind ∷ kinds)

-- the kinds of types that follow a type, or none, where each has one
abbrev pub kinds_after : Option CallType → List CallType → Option (List Kind)
kinds_after before [] = Some []
kinds_after before (t ∷ types) = kind_before (kind_of before t (first_of types)) (kinds_after (Some t) types)

-- the kinds of the types of a row, where each has one
abbrev pub kinds_of : List CallType → Option (List Kind)
kinds_of types = kinds_after None types
