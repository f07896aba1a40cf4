-- The command `gates`.
use Rattle.std.specs.Prelude.{◌≡◌, ℕ, List, [], ◌∷◌, map, Option, Some, Ok}
use Rattle.nx_calls.specs.declared.row.CallRow.{CallRow}
use Rattle.nx_calls.specs.Meanings.{meaning_by}
use Rattle.nx_calls.specs.Table.{IsTable}
use Rattle.nx_gate.specs.Gates.{gate_of, listing_of}
use Rattle.nx_top.specs.declared.answer.Answer.{Answer}
use Rattle.nx_top.specs.declared.answer.Answer.TheVariants.{Done}
use Rattle.nx_top.specs.CommandLine.{GatesForm}
use Rattle.nx_top.specs.Examining.{Must, Configuration, CallTable}

-- a configuration, and a call table under it
abbrev pub gates_musts : GatesForm → List (Option (List ℕ)) → List Must
gates_musts form (config ∷ calls ∷ []) = Configuration form.config config ∷ CallTable form.calls config calls ∷ []
gates_musts form _ = []

-- the listing of the gates of the table's rows, in one piece
abbrev pub Lists : List (Option (List ℕ)) → Answer → Type 0
Lists (Some config ∷ Some calls ∷ []) a = (rows : List CallRow) × IsTable (meaning_by config) calls (Ok rows) × (a ≡ Done 0 (listing_of (map gate_of rows) ∷ []))
Lists _ a = ⊥
