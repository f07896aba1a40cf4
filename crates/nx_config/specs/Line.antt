-- What one line says.
use Rattle.std.specs.Prelude.{◌≡◌, ℕ, ◌==◌, Bool, false, ◌&&◌, if◌then◌else◌, List, [], ◌∷◌, codes, Option, None, Some, Result, Ok, Err, ℤ}
use Rattle.std.specs.List.{list_all, list_any}
use Rattle.std.specs.Str.{bytes_eq}
use Rattle.nx_config.specs.declared.fault.ConfigKind.{ConfigKind}
use Rattle.nx_config.specs.declared.fault.ConfigKind.TheVariants.{BadLine}
use Rattle.nx_config.specs.declared.fault.Stop.{Stop}
use Rattle.nx_config.specs.declared.fault.Stop.TheVariants.{Memory, Fault}
use Rattle.nx_config.specs.declared.value.Value.{Value}
use Rattle.nx_config.specs.declared.value.Value.TheVariants.{Yes, Number, Text}
use Rattle.nx_config.specs.declared.value.Assignment.{Assignment}
use Rattle.nx_base.specs.TextBytes.{before_mark, after_mark, is_line_blank, is_word_byte, trimmed_of}
use Rattle.nx_config.specs.Numbers.{integer_of}
use Rattle.nx_config.specs.Quoted.{quoted}

-- one letter, digit or `_` or more
abbrev pub is_name : List ℕ → Bool
is_name [] = false
is_name (b ∷ bs) = list_all is_word_byte (b ∷ bs)

-- a number as a value
abbrev pub number_or : Result ℤ ConfigKind → Result (Option Value) ConfigKind
number_or (Ok n) = Ok (Some (Number n))
number_or (Err kind) = Err kind

-- a text as a value, or a bad line where it isn't closed at the end
abbrev pub text_or : Option (List ℕ) → Result (Option Value) ConfigKind
text_or (Some text) = Ok (Some (Text text))
text_or None = Err BadLine

-- what stands after `=`: nothing, which is the empty text; `y`; `n`, which is no value; a quoted text; a number
unfoldable pub value_of : List ℕ → Result (Option Value) ConfigKind
value_of [] = Ok (Some (Text []))
value_of (b ∷ bs) =
    if bytes_eq (b ∷ bs) (codes "y") then Ok (Some Yes)
    else if bytes_eq (b ∷ bs) (codes "n") then Ok None
    else if b == 34 then text_or (quoted false bs)
    else number_or (integer_of (b ∷ bs))

-- a name with a value, or none, that was read
abbrev pub assignment_of : List ℕ → Result (Option Value) ConfigKind → Result (Option Assignment) ConfigKind
assignment_of name (Ok value) = Ok (Some (record { name = name; value = value }))
assignment_of name (Err kind) = Err kind

-- NAME=VALUE
unfoldable pub assigned : List ℕ → Result (Option Assignment) ConfigKind
assigned line =
    if list_any (λ b. b == 61) line && is_name (before_mark 61 line)
    then assignment_of (before_mark 61 line) (value_of (after_mark 61 line)) else Err BadLine

-- after a `#`: a space, a name, a space and `is not set`, which gives the name no value; all else says nothing
unfoldable pub unset : List ℕ → Option Assignment
unset [] = None
unset (b ∷ bs) =
    if (b == 32) && is_name (before_mark 32 bs) && bytes_eq (after_mark 32 bs) (codes "is not set")
    then Some (record { name = before_mark 32 bs; value = None }) else None

-- a line without blanks at its ends: an empty one says nothing
unfoldable pub trimmed_says : List ℕ → Result (Option Assignment) ConfigKind
trimmed_says [] = Ok None
trimmed_says (b ∷ bs) = if b == 35 then Ok (unset bs) else assigned (b ∷ bs)

-- what a line says: nothing, a name with its value or none, or a fault
abbrev pub says : List ℕ → Result (Option Assignment) ConfigKind
says line = trimmed_says (trimmed_of is_line_blank line)

-- a stop is the fault that was read; out of memory is free
abbrev pub IsStop : {T : Type 0} → Stop → Result T ConfigKind → Type 0
IsStop Memory read = Unit {0}
IsStop (Fault kind) read = read ≡ Err kind

-- a result is what was read, its fault included
abbrev pub IsReadAs : {T : Type 0} → Result T Stop → Result T ConfigKind → Type 0
IsReadAs (Ok x) read = read ≡ Ok x
IsReadAs (Err stop) read = IsStop stop read
