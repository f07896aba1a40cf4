-- What the files of a command must be, and the order in which they are examined.
use Rattle.std.specs.Prelude.{◌≡◌, ℕ, List, [], ◌∷◌, ◌⊎◌, Option, Some, None, Ok, Err}
use Rattle.nx_config.specs.declared.fault.ConfigKind.{ConfigKind}
use Rattle.nx_config.specs.declared.fault.ConfigFault.TheVariants as config_fault
use Rattle.nx_config.specs.Configuration.{first_fault}
use Rattle.nx_calls.specs.declared.fault.CallsKind.{CallsKind}
use Rattle.nx_calls.specs.declared.fault.CallsFault.TheVariants as calls_fault
use Rattle.nx_calls.specs.declared.row.CallRow.{CallRow}
use Rattle.nx_calls.specs.Meanings.{meaning_by}
use Rattle.nx_calls.specs.Table.{IsTable}
use Rattle.nx_top.specs.declared.answer.Answer.{Answer}
use Rattle.nx_top.specs.declared.answer.Answer.TheVariants.{Faulty, NotBuilt}
use Rattle.nx_top.specs.declared.refusal.FaultKind.TheVariants.{Config, Calls}
use Rattle.nx_top.specs.first.Inputs.{IsConfig, IsCalls, IsScript, HasProgram}
use Rattle.nx_top.specs.first.Program.{Program}

-- what a file must be, with its name and its content, of which none stands for one that is too long
pub data Must : Type 0 where
  Configuration : List ℕ → Option (List ℕ) → Must
  -- under the text of a configuration
  CallTable : List ℕ → Option (List ℕ) → Option (List ℕ) → Must
  -- of the first path: the flat configuration, the table of write, a program of writes, the command of a name
  FlatConfiguration : List ℕ → Option (List ℕ) → Must
  WriteTable : List ℕ → Option (List ℕ) → Must
  WriteProgram : List ℕ → Option (List ℕ) → Must
  OneCommand : List ℕ → List ℕ → Option (List ℕ) → Must

-- the file is what it must be
abbrev pub Accepts : Must → Type 0
Accepts (Configuration file None) = ⊥
Accepts (Configuration file (Some text)) = first_fault text ≡ None
Accepts (CallTable file None content) = ⊥
Accepts (CallTable file (Some config) None) = ⊥
Accepts (CallTable file (Some config) (Some text)) = (rows : List CallRow) × IsTable (meaning_by config) text (Ok rows)
Accepts (FlatConfiguration file content) = IsConfig content
Accepts (WriteTable file content) = IsCalls content
Accepts (WriteProgram file content) = (p : Program) × HasProgram content p
Accepts (OneCommand name file content) = IsScript name content

-- the answer to a file that is not what it must be: its first fault, or that it is not built
abbrev pub Refuses : Must → Answer → Type 0
Refuses (Configuration file None) a = ⊥
Refuses (Configuration file (Some text)) a =
    (line : ℕ) × (kind : ConfigKind) × (first_fault text ≡ Some (config_fault.Text line kind)) × (a ≡ Faulty (record { file = file; line = line; kind = Config kind }))
Refuses (CallTable file None content) a = ⊥
Refuses (CallTable file (Some config) None) a = ⊥
Refuses (CallTable file (Some config) (Some text)) a =
    (row : ℕ) × (kind : CallsKind) × IsTable (meaning_by config) text (Err (calls_fault.Text row kind)) × (a ≡ Faulty (record { file = file; line = row; kind = Calls kind }))
Refuses (FlatConfiguration file content) a = ¬ IsConfig content × (a ≡ NotBuilt file)
Refuses (WriteTable file content) a = ¬ IsCalls content × (a ≡ NotBuilt file)
Refuses (WriteProgram file content) a = ((p : Program) → ¬ HasProgram content p) × (a ≡ NotBuilt file)
Refuses (OneCommand name file content) a = ¬ IsScript name content × (a ≡ NotBuilt file)

-- the answer to the first file, in the order of examining, that is not what it must be
abbrev pub FirstRefused : List Must → Answer → Type 0
FirstRefused [] a = ⊥
FirstRefused (must ∷ musts) a = Refuses must a ⊎ (Accepts must × FirstRefused musts a)

-- every file is what it must be
abbrev pub AllAccepted : List Must → Type 0
AllAccepted [] = Unit {0}
AllAccepted (must ∷ musts) = Accepts must × AllAccepted musts
