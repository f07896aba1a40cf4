-- What stands at each number of a call table.
use Rattle.std.specs.Prelude.{◌-◌, ◌≤◌, ◌==◌, ◌||◌, false, nat_lt, if◌then◌else◌, List, [], ◌∷◌, length, Option, None, Some, All, slice_get}
use Rattle.nx_base.specs.declared.calls.Kind.TheVariants.{Word}
use Rattle.nx_base.specs.Calls.{Row, Rows}
use Rattle.nx_calls.specs.declared.row.CallRow.{CallRow}
use Rattle.nx_ccheck.specs.Files.{call_of}
use Rattle.nx_lower.specs.Laws.{row_of}

abbrev pub no_row : Row
no_row = record { kinds = []; enters = false }

-- The call that ends a group or a thread has a status.
abbrev pub ending_row : Row
ending_row = record { kinds = Word ∷ []; enters = false }

abbrev pub row_or : Option CallRow → Row
row_or None = no_row
row_or (Some row) = row_of (call_of row)

-- Number 1 ends a group, number 2 a thread, and the rows have the numbers from 16 on.
unfoldable pub table_rows : List CallRow → Rows
table_rows rows n =
    if nat_lt n 16 then (if (n == 1) || (n == 2) then ending_row else no_row) else row_or (slice_get rows (n - 16))

-- Each row has at most six parameters.
abbrev pub HasFewParameters : List CallRow → Type 0
HasFewParameters rows = All (λ row. length row.kinds.items ≤ 6) rows
