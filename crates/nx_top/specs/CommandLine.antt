-- The forms of the command line.
use Rattle.std.specs.Prelude.{ℕ, ◌≤◌, Bool, true, false, ◌&&◌, ◌==◌, nat_eq, nat_le, not, List, [], ◌∷◌, length, if◌then◌else◌, codes, Option, Some, None}
use Rattle.std.specs.Option.{option_map}
use Rattle.std.specs.List.{list_any, list_all, before_first, after_first, starts_with, ends_with}
use Rattle.std.specs.Str.{bytes_eq}
use Rattle.nx_base.specs.TextBytes.{is_word_byte}
use Rattle.nx_top.specs.declared.command_line.CommandWords.{CommandWords}
use Rattle.nx_top.specs.declared.command_line.CommandWords.TheVariants as words
use Rattle.nx_top.specs.declared.command_line.GatesWords.{GatesWords}
use Rattle.nx_top.specs.declared.command_line.RunWords.{RunWords}

-- the files of a run, and the name of its program
pub record RunForm : Type 0 where
  pub config : List ℕ
  pub calls : List ℕ
  pub script : List ℕ
  pub name : List ℕ
  pub file : List ℕ

-- the files of a listing of gates
pub record GatesForm : Type 0 where
  pub config : List ℕ
  pub calls : List ℕ

-- what a command line asks for
pub data CommandLine : Type 0 where
  Run : RunForm → CommandLine
  Gates : GatesForm → CommandLine

-- 1 to 32 letters, digits or underscores
abbrev pub is_name : List ℕ → Bool
is_name text = nat_le 1 (length text) && nat_le (length text) 32 && list_all is_word_byte text

abbrev pub is_equals : ℕ → Bool
is_equals b = b == 61

-- a word that is an option, whatever it stands for
abbrev pub is_option : List ℕ → Bool
is_option word = starts_with nat_eq word (codes "--")

-- the file of a C program: not empty, and not one of raw words
abbrev pub is_source : List ℕ → Bool
is_source file = nat_le 1 (length file) && not (ends_with nat_eq file (codes ".hex"))

-- NAME=FILE, parted at its first equals sign
abbrev pub form_with : List ℕ → List ℕ → List ℕ → List ℕ → Option RunForm
form_with config calls script word =
    if list_any is_equals word && is_name (before_first is_equals word) && is_source (after_first is_equals word)
    then Some (record { config = config; calls = calls; script = script; name = before_first is_equals word; file = after_first is_equals word })
    else None

-- the words after `run`: CONFIG CALLS SCRIPT NAME=FILE
abbrev pub run_form : List (List ℕ) → Option RunForm
run_form (config ∷ calls ∷ script ∷ program ∷ []) =
    if not (is_option config) && not (is_option calls) && not (is_option script)
    then form_with config calls script program
    else None
run_form _ = None

-- the words after `gates`: CONFIG CALLS
abbrev pub gates_form : List (List ℕ) → Option GatesForm
gates_form (config ∷ calls ∷ []) =
    if not (is_option config) && not (is_option calls) then Some (record { config = config; calls = calls }) else None
gates_form _ = None

-- a command and its words
abbrev pub form_of : List (List ℕ) → Option CommandLine
form_of [] = None
form_of (command ∷ words) =
    if bytes_eq command (codes "run") then option_map Run (run_form words)
    else if bytes_eq command (codes "gates") then option_map Gates (gates_form words)
    else None

-- the files of a command, in the order in which they are read
abbrev pub files_of : CommandLine → List (List ℕ)
files_of (Run form) = form.config ∷ form.calls ∷ form.script ∷ form.file ∷ []
files_of (Gates form) = form.config ∷ form.calls ∷ []

-- whether a file that is too long ends the reading: a run examines such a file with the others
abbrev pub stops_at_long : CommandLine → Bool
stops_at_long (Run form) = false
stops_at_long (Gates form) = true

-- the program of a run has a name of at most 32 bytes
abbrev pub HasName : CommandLine → Type 0
HasName (Run form) = length form.name ≤ 32
HasName (Gates form) = Unit {0}

-- the forms that the code's words are
abbrev pub run_form_of : RunWords → RunForm
run_form_of w = record { config = w.config.now; calls = w.calls.now; script = w.script.now; name = w.name.now; file = w.file.now }

abbrev pub gates_form_of : GatesWords → GatesForm
gates_form_of w = record { config = w.config.now; calls = w.calls.now }

abbrev pub command_of : CommandWords → CommandLine
command_of (words.Run w) = Run (run_form_of w)
command_of (words.Gates w) = Gates (gates_form_of w)
