-- What the answers of the functions say.
use Rattle.std.specs.Prelude.{◌≡◌, ℕ, Bool, List, [], ◌∷◌, ◌++◌, Result, Ok, Err, Option}
use Rattle.nx_conditions.specs.declared.meaning.Meaning.{Meaning}
use Rattle.nx_conditions.specs.declared.stop.ConditionStop.{ConditionStop}
use Rattle.nx_conditions.specs.declared.stop.ConditionStop.TheVariants as condition_stop
use Rattle.nx_calls.specs.declared.fault.CallsFault.{CallsFault}
use Rattle.nx_calls.specs.declared.fault.CallsFault.TheVariants as fault
use Rattle.nx_calls.specs.declared.fault.RowStop.{RowStop}
use Rattle.nx_calls.specs.declared.fault.RowStop.TheVariants as stop
use Rattle.nx_calls.specs.declared.row.CallRow.{CallRow}
use Rattle.nx_calls.specs.Rows.{Verdict, IsWorth, IsNoCondition, Says}
use Rattle.nx_calls.specs.Table.{cells_of, HaveRows}

-- what a function returned is this verdict, unless memory ran out
abbrev pub IsVerdict : Result (Option CallRow) RowStop → Verdict → Type 0
IsVerdict (Ok row) verdict = verdict ≡ Ok row
IsVerdict (Err stop.Memory) verdict = Unit {0}
IsVerdict (Err (stop.Fault kind)) verdict = verdict ≡ Err kind

-- the fields say this, unless memory ran out
abbrev pub IsSaid : (List ℕ → Option Meaning) → List CallRow → List (List ℕ) → Result (Option CallRow) RowStop → Type 0
IsSaid means rows fields (Ok row) = Says means rows fields (Ok row)
IsSaid means rows fields (Err stop.Memory) = Unit {0}
IsSaid means rows fields (Err (stop.Fault kind)) = Says means rows fields (Err kind)

-- whether a condition holds, unless memory ran out
abbrev pub IsHeld : (List ℕ → Option Meaning) → List ℕ → Result Bool ConditionStop → Type 0
IsHeld means text (Ok b) = IsWorth means text b
IsHeld means text (Err condition_stop.Bad) = IsNoCondition text
IsHeld means text (Err condition_stop.Memory) = Unit {0}

-- how a record leads from rows to rows, unless memory ran out
abbrev pub TakesRecord : (List ℕ → Option Meaning) → List (List ℕ) → List CallRow → List CallRow → Result (Unit {0}) RowStop → Type 0
TakesRecord means fields old new (Ok done) = (records : List (List (List ℕ))) → HaveRows means records old → HaveRows means (records ++ fields ∷ []) new
TakesRecord means fields old new (Err stop.Memory) = Unit {0}
TakesRecord means fields old new (Err (stop.Fault kind)) = Says means old (cells_of fields) (Err kind)

-- the fault of the table at a record
abbrev pub fault_of : ℕ → RowStop → CallsFault
fault_of n stop.Memory = fault.Memory
fault_of n (stop.Fault kind) = fault.Text n kind
