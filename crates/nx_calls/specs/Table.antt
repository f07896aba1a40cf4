-- The call table of a text.
use Rattle.std.specs.Prelude.{◌≡◌, ◌≢◌, ℕ, ◌+◌, ◌<◌, ◌≤◌, All, AllPairs, slice_index_or, List, [], ◌∷◌, ◌++◌, length, map, Option, None, Some, Result, Ok, Err}
use Rattle.csv.specs.Reading.{AreRecords, default_config, strip_bom}
use Rattle.csv.specs.declared.parser.State.TheVariants as st
use Rattle.nx_conditions.specs.declared.meaning.Meaning.{Meaning}
use Rattle.nx_base.specs.TextBytes.{is_line_blank, trimmed_of}
use Rattle.nx_calls.specs.declared.fault.CallsKind.{CallsKind}
use Rattle.nx_calls.specs.declared.fault.CallsFault.{CallsFault}
use Rattle.nx_calls.specs.declared.fault.CallsFault.TheVariants as fault
use Rattle.nx_calls.specs.declared.row.CallRow.{CallRow}
use Rattle.nx_calls.specs.Rows.{IsRow, Says}

-- what holds of the rows of a table: there are at most 512, each has the number 16 plus its place, each fits its call, and no two have one name
pub record AreRows (rows : List CallRow) : Type 0 where
  pub few : length rows ≤ 512
  pub numbers : (k : ℕ) (d : CallRow) → k < length rows → (slice_index_or rows k d).number ≡ 16 + k
  pub fit : All IsRow rows
  pub names : AllPairs (λ a b. a.name ≢ b.name) rows

-- a record's fields without the blanks at their ends
abbrev pub cells_of : List (List ℕ) → List (List ℕ)
cells_of fields = map (trimmed_of is_line_blank) fields

-- records without a fault, and the rows of those whose condition is true, in their order
pub data HaveRows (means : List ℕ → Option Meaning) : List (List (List ℕ)) → List CallRow → Type 0 where
  Empty : HaveRows means [] []
  False : (records : List (List (List ℕ))) (rows : List CallRow) (fields : List (List ℕ)) →
      HaveRows means records rows → Says means rows (cells_of fields) (Ok None) → HaveRows means (records ++ fields ∷ []) rows
  True : (records : List (List (List ℕ))) (rows : List CallRow) (fields : List (List ℕ)) (row : CallRow) →
      HaveRows means records rows → Says means rows (cells_of fields) (Ok (Some row)) → HaveRows means (records ++ fields ∷ []) (rows ++ row ∷ [])

-- what records give: their rows, or the first fault, at its record's place from 1
pub data Give (means : List ℕ → Option Meaning) : List (List (List ℕ)) → Result (List CallRow) CallsFault → Type 0 where
  Rows : (records : List (List (List ℕ))) (rows : List CallRow) → HaveRows means records rows → Give means records (Ok rows)
  Fault : (before after : List (List (List ℕ))) (fields : List (List ℕ)) (rows : List CallRow) (kind : CallsKind) →
      HaveRows means before rows → Says means rows (cells_of fields) (Err kind) → Give means (before ++ fields ∷ after) (Err (fault.Text (length before + 1) kind))

-- what a text gives: its records are those of its values between commas, without a byte order mark
pub record IsTable (means : List ℕ → Option Meaning) (text : List ℕ) (r : Result (List CallRow) CallsFault) : Type 0 where
  pub records : List (List (List ℕ))
  pub are : AreRecords default_config st.StartRecord (strip_bom text) records
  pub give : Give means records r

-- what was read is what these records give, unless memory ran out
abbrev pub IsReadOf : (List ℕ → Option Meaning) → List (List (List ℕ)) → Result (List CallRow) CallsFault → Type 0
IsReadOf means records (Ok rows) = Give means records (Ok rows)
IsReadOf means records (Err fault.Memory) = Unit {0}
IsReadOf means records (Err (fault.Text n kind)) = Give means records (Err (fault.Text n kind))

-- what was read is what the text gives, unless memory ran out
abbrev pub IsRead : (List ℕ → Option Meaning) → List ℕ → Result (List CallRow) CallsFault → Type 0
IsRead means text (Ok rows) = IsTable means text (Ok rows)
IsRead means text (Err fault.Memory) = Unit {0}
IsRead means text (Err (fault.Text n kind)) = IsTable means text (Err (fault.Text n kind))

-- this was given, unless memory ran out
abbrev pub IsGiven : Result (List CallRow) CallsFault → Result (List CallRow) CallsFault → Type 0
IsGiven (Ok rows) r = r ≡ Ok rows
IsGiven (Err fault.Memory) r = Unit {0}
IsGiven (Err (fault.Text n kind)) r = r ≡ Err (fault.Text n kind)
