-- What the reading of lines keeps.
use Rattle.std.specs.Prelude.{◌≡◌, ℕ, List, Option, None, Some, Result, Ok, Err}
use Rattle.std.specs.Map.{lookup, keys_of}
use Rattle.std.specs.Option.{option_or}
use Rattle.std.specs.Str.{bytes_eq}
use Rattle.nx_config.specs.declared.fault.ConfigKind.{ConfigKind}
use Rattle.nx_config.specs.declared.fault.ConfigFault.{ConfigFault}
use Rattle.nx_config.specs.declared.fault.ConfigFault.TheVariants as fault
use Rattle.nx_config.specs.declared.fault.Stop.{Stop}
use Rattle.nx_config.specs.declared.fault.Stop.TheVariants as stop
use Rattle.nx_config.specs.declared.value.Assignment.{Assignment}
use Rattle.nx_config.specs.declared.value.Kept.{Kept}
use Rattle.nx_config.specs.Lines.{Entry, entries_of, entry_at, last_of, names_after, fault_after, line_fault}

-- a table has what the last entry of each name says
abbrev pub HasLast : List (List ℕ × Kept) → List Entry → Type 0
HasLast table es = (name : List ℕ) → lookup (bytes_eq name) table ≡ last_of name es

-- a line took an old table to a new one
pub record AddsLine (line : ℕ) (said : Result (Option Assignment) ConfigKind) (old new : List (List ℕ × Kept)) : Type 0 where
  pub good : fault_after (keys_of old) said ≡ None
  pub names : keys_of new ≡ names_after (keys_of old) said
  pub values : (name : List ℕ) → lookup (bytes_eq name) new ≡ option_or (last_of name (entry_at line said)) (lookup (bytes_eq name) old)

-- a line is refused; out of memory is free
abbrev pub IsRefused : Stop → Result (Option Assignment) ConfigKind → List (List ℕ × Kept) → Type 0
IsRefused stop.Memory said old = Unit {0}
IsRefused (stop.Fault kind) said old = fault_after (keys_of old) said ≡ Some kind

-- a line is kept, or it is refused
abbrev pub IsLineTaken : {T : Type 0} → Result T Stop → ℕ → Result (Option Assignment) ConfigKind → List (List ℕ × Kept) → List (List ℕ × Kept) → Type 0
IsLineTaken (Ok x) line said old new = AddsLine line said old new
IsLineTaken (Err stop) line said old new = IsRefused stop said old

-- the fault of a line
abbrev pub stopped : ℕ → Stop → ConfigFault
stopped line stop.Memory = fault.Memory
stopped line (stop.Fault kind) = fault.Text line kind

-- a fault is the first of the lines; out of memory is free
abbrev pub IsLineFault : ConfigFault → List ℕ → Type 0
IsLineFault fault.Memory text = Unit {0}
IsLineFault (fault.Text line kind) text = line_fault text ≡ Some (fault.Text line kind)

-- the table of a text without a faulty line, or the first fault
abbrev pub AreLinesTaken : Result (List (List ℕ × Kept)) ConfigFault → List ℕ → Type 0
AreLinesTaken (Ok table) text = (line_fault text ≡ None) × HasLast table (entries_of text)
AreLinesTaken (Err fault) text = IsLineFault fault text
