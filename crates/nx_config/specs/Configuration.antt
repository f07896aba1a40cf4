-- What a configuration is, and what reading one gives.
use Rattle.std.specs.Prelude.{◌≡◌, ℕ, List, Option, None, Some, Result, Ok, Err}
use Rattle.std.specs.Option.{option_or}
use Rattle.nx_config.specs.declared.fault.ConfigKind.TheVariants.{OutOfRange}
use Rattle.nx_config.specs.declared.fault.ConfigFault.{ConfigFault}
use Rattle.nx_config.specs.declared.fault.ConfigFault.TheVariants as fault
use Rattle.nx_config.specs.declared.value.Value.{Value}
use Rattle.nx_config.specs.declared.value.Kept.{Kept}
use Rattle.nx_config.specs.declared.limits.Limits.{Limits}
use Rattle.nx_config.specs.Limits.{limits_by}
use Rattle.nx_config.specs.Lines.{entries_of, last_of, line_fault}
use Rattle.nx_config.specs.Tables.{value_in}

-- what a configuration holds: for each name its last line, and the limits
pub record Configuration : Type 0 where
  pub values : List (List ℕ × Kept)
  pub limits : Limits

-- what the last line of a name says in a text
abbrev pub last_in : List ℕ → List ℕ → Option Kept
last_in text name = last_of name (entries_of text)

-- the value that a line gave
abbrev pub value_kept : Option Kept → Option Value
value_kept None = None
value_kept (Some kept) = kept.value

-- the fault of a limit out of its range
abbrev pub out_of_range : Result Limits ℕ → Option ConfigFault
out_of_range (Ok limits) = None
out_of_range (Err line) = Some (fault.Text line OutOfRange)

-- the first fault of a text: of its lines in their order, then of its limits in order of their last lines
abbrev pub first_fault : List ℕ → Option ConfigFault
first_fault text = option_or (line_fault text) (out_of_range (limits_by (last_in text)))

-- a configuration is that of a text: the text has no fault, each name has what its last line says, and the limits are those of the text
pub record IsOfText (c : Configuration) (text : List ℕ) : Type 0 where
  pub good : first_fault text ≡ None
  pub values : (name : List ℕ) → value_in c.values name ≡ last_in text name
  pub limits : limits_by (last_in text) ≡ Ok c.limits

-- the text is refused by its first fault; out of memory is free
abbrev pub IsFirstFault : ConfigFault → List ℕ → Type 0
IsFirstFault fault.Memory text = Unit {0}
IsFirstFault (fault.Text line kind) text = first_fault text ≡ Some (fault.Text line kind)

-- the configuration of a text, or its first fault
abbrev pub Configures : Result Configuration ConfigFault → List ℕ → Type 0
Configures (Ok c) text = IsOfText c text
Configures (Err f) text = IsFirstFault f text
