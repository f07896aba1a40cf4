-- The entries of a text, in order of its lines, and the first fault of a line.
use Rattle.std.specs.Prelude.{ℕ, zero, suc, ◌+◌, ◌==◌, nat_lt, ◌||◌, if◌then◌else◌, List, [], ◌∷◌, ◌++◌, length, take, slice_index_or, Option, None, Some, Result, Ok, Err}
use Rattle.std.specs.List.{list_any, onto_first, enumerate_from, flat_map, fold}
use Rattle.std.specs.Option.{option_or}
use Rattle.std.specs.Str.{bytes_eq}
use Rattle.nx_config.specs.declared.fault.ConfigKind.{ConfigKind}
use Rattle.nx_config.specs.declared.fault.ConfigKind.TheVariants.{Limit}
use Rattle.nx_config.specs.declared.fault.ConfigFault.{ConfigFault}
use Rattle.nx_config.specs.declared.fault.ConfigFault.TheVariants as fault
use Rattle.nx_config.specs.declared.value.Value.{Value}
use Rattle.nx_config.specs.declared.value.Assignment.{Assignment}
use Rattle.nx_config.specs.declared.value.Kept.{Kept}
use Rattle.nx_config.specs.Line.{says}

-- the lines of a text, each ended by a newline or by the text's end
abbrev pub lines_of : List ℕ → List (List ℕ)
lines_of [] = []
lines_of (b ∷ bs) = if b == 10 then [] ∷ lines_of bs else onto_first b (lines_of bs)

-- a line, counted from 1, and the name that it gives a value or none
pub record Entry : Type 0 where
  pub line : ℕ
  pub name : List ℕ
  pub value : Option Value

-- the entry of a line, if it gives one
abbrev pub entry_at : ℕ → Result (Option Assignment) ConfigKind → List Entry
entry_at n (Ok (Some g)) = record { line = n; name = g.name; value = g.value } ∷ []
entry_at n (Ok None) = []
entry_at n (Err kind) = []

-- the entries of lines that are counted from 1
abbrev pub entries_in : List (List ℕ) → List Entry
entries_in lines = flat_map (λ l. entry_at l.0 (says l.1)) (enumerate_from 1 lines)

-- the entries of a text
abbrev pub entries_of : List ℕ → List Entry
entries_of text = entries_in (lines_of text)

-- what the last entry of a name says
abbrev pub last_of : List ℕ → List Entry → Option Kept
last_of name [] = None
last_of name (e ∷ es) = option_or (last_of name es) (if bytes_eq name e.name then Some (record { line = e.line; value = e.value }) else None)

-- the distinct names, with those of one line more
abbrev pub names_after : List (List ℕ) → Result (Option Assignment) ConfigKind → List (List ℕ)
names_after names (Ok (Some g)) = if list_any (bytes_eq g.name) names then names else names ++ g.name ∷ []
names_after names (Ok None) = names
names_after names (Err kind) = names

-- the distinct names of lines, in order
abbrev pub names_in : List (List ℕ) → List (List ℕ)
names_in lines = fold (λ names line. names_after names (says line)) [] lines

-- the fault of a line after lines of these names: there are at most 8,192 names
abbrev pub fault_after : List (List ℕ) → Result (Option Assignment) ConfigKind → Option ConfigKind
fault_after names (Ok (Some g)) = if list_any (bytes_eq g.name) names || nat_lt (length names) 8192 then None else Some Limit
fault_after names (Ok None) = None
fault_after names (Err kind) = Some kind

-- a kind of fault at a line
abbrev pub fault_at : ℕ → Option ConfigKind → Option ConfigFault
fault_at n None = None
fault_at n (Some kind) = Some (fault.Text n kind)

-- the fault of the line at a place from 0, after the names of the lines before it
abbrev pub fault_in : List (List ℕ) → ℕ → Option ConfigFault
fault_in lines place = fault_at (place + 1) (fault_after (names_in (take place lines)) (says (slice_index_or lines place [])))

-- the first fault at the places below a number
abbrev pub first_below : (ℕ → Option ConfigFault) → ℕ → Option ConfigFault
first_below at zero = None
first_below at (suc n) = option_or (first_below at n) (at n)

-- the first fault of a line of a text
abbrev pub line_fault : List ℕ → Option ConfigFault
line_fault text = first_below (fault_in (lines_of text)) (length (lines_of text))
