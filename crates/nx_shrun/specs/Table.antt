-- The table of commands: the steps of each.
use Rattle.std.specs.Prelude.{ℕ, zero, suc, ◌==◌, ◌||◌, nat_lt, nat_le, Bool, true, false, if◌then◌else◌, List, [], ◌∷◌, ◌++◌, length, codes, ℤ, Option, None, Some}
use Rattle.std.specs.List.{list_any}
use Rattle.std.specs.Str.{bytes_eq}
use Rattle.nx_base.specs.Arithmetic.{word_of}
use Rattle.nx_shtree.specs.declared.tree.Mode.{Mode}
use Rattle.nx_shrun.specs.declared.builtin.Builtin.{Builtin}
use Rattle.nx_shrun.specs.declared.builtin.Builtin.TheVariants as builtin
use Rattle.nx_shrun.specs.declared.step.Ending.{Ending}
use Rattle.nx_shrun.specs.declared.step.Ending.TheVariants.{Status, Exit}
use Rattle.nx_shrun.specs.declared.step.Change.TheVariants as change
use Rattle.nx_shrun.specs.declared.step.Listing.TheVariants as listing
use Rattle.nx_shrun.specs.declared.step.Test.{Test}
use Rattle.nx_shrun.specs.declared.step.Test.TheVariants.{Malformed, Known, Path}
use Rattle.nx_shrun.specs.declared.step.Step.{Step}
use Rattle.nx_shrun.specs.declared.step.Step.TheVariants as step
use Rattle.nx_shrun.specs.Builtins.{builtin_named}
use Rattle.nx_shrun.specs.Texts.{word_at, arguments, all_but_last, last_of, spaced, lines, bad_arguments, line_too_long}
use Rattle.nx_shrun.specs.Numbers.{number}
use Rattle.nx_shrun.specs.Tests.{test_of}
use Rattle.nx_shrun.specs.Steps.{Running, Outcome, go, say, status_of}

-- The steps of a command of the table between those of its redirection, and how it ends.
pub record Body : Type 0 where
  pub ending : Ending
  pub steps : List Step

-- It ends with status 0.
abbrev pub does : List Step → Option Body
does steps = Some (record { ending = Status 0; steps = steps })

abbrev pub ends_with : Ending → Option Body
ends_with ending = Some (record { ending = ending; steps = [] })

-- A command has so many words after its name, or at most so many.
abbrev pub exactly : ℕ → List (List ℕ) → Option Body → Option Body
exactly n words body = if length (arguments words) == n then body else None

abbrev pub at_most : ℕ → List (List ℕ) → Option Body → Option Body
at_most n words body = if nat_le (length (arguments words)) n then body else None

-- So many files, from a word on.
abbrev pub cats : ℕ → ℕ → List Step
cats place zero = []
cats place (suc n) = step.Open place ∷ step.Read ∷ step.Close ∷ cats (suc place) n

abbrev pub tested : Test → Option Body
tested Malformed = None
tested (Known holds) = ends_with (Status (status_of holds))
tested (Path want isnt) = does (step.Probe want isnt ∷ [])

-- The words before a last `]`.
abbrev pub in_brackets : List (List ℕ) → Option (List (List ℕ))
in_brackets words = if bytes_eq (last_of words) (codes "]") then Some (all_but_last words) else None

abbrev pub tested_in : Option (List (List ℕ)) → Option Body
tested_in None = None
tested_in (Some ws) = tested (test_of ws)

abbrev pub sleeps : Option ℤ → Option Body
sleeps None = None
sleeps (Some n) = does (step.Sleep (word_of n) ∷ [])

abbrev pub leaves : Option ℤ → Option Body
leaves None = None
leaves (Some n) = ends_with (Exit (word_of n))

-- What a command of the table does with its words, at this status; none where its arguments are bad.
abbrev pub body : Builtin → ℕ → List (List ℕ) → Option Body
body builtin.Echo status ws = does (step.Echo ∷ [])
body builtin.Cat status ws = if length (arguments ws) == 0 then None else does (cats 1 (length (arguments ws)))
body builtin.Ls status ws = at_most 1 ws (does (step.Look ∷ []))
body builtin.Cd status ws = at_most 1 ws (does (step.Change change.Chdir ∷ []))
body builtin.Mkdir status ws = exactly 1 ws (does (step.Change change.Mkdir ∷ []))
body builtin.Rmdir status ws = exactly 1 ws (does (step.Change change.Rmdir ∷ []))
body builtin.Rm status ws = exactly 1 ws (does (step.Change change.Unlink ∷ []))
body builtin.Mv status ws = exactly 2 ws (does (step.Change change.Rename ∷ []))
body builtin.Pwd status ws = exactly 0 ws (does (step.Directory ∷ []))
body builtin.Cp status ws = exactly 2 ws (does (step.Open 1 ∷ step.Create ∷ step.Read ∷ step.Close ∷ step.Close ∷ []))
body builtin.Set status ws = exactly 2 ws (does (step.Change change.Setenv ∷ []))
body builtin.Export status ws = exactly 2 ws (does (step.Change change.Setenv ∷ []))
body builtin.Unset status ws = exactly 1 ws (does (step.Change change.Unsetenv ∷ []))
body builtin.Env status ws = exactly 0 ws (does (step.Each listing.Variables 0 ∷ []))
body builtin.Ps status ws = exactly 0 ws (does (step.Each listing.Groups 0 ∷ []))
body builtin.Test status ws = tested (test_of (arguments ws))
body builtin.Bracket status ws = tested_in (in_brackets (arguments ws))
body builtin.True status ws = exactly 0 ws (ends_with (Status 0))
body builtin.False status ws = exactly 0 ws (ends_with (Status 1))
body builtin.Sleep status ws = exactly 1 ws (sleeps (number (word_at ws 1)))
body builtin.Exit status ws = if length (arguments ws) == 0 then ends_with (Exit status) else exactly 1 ws (leaves (number (word_at ws 1)))

-- A redirection is opened before the other steps, and closed after those of a command of the table, unless it ends the shell.
abbrev pub opening : Option Mode → List Step
opening None = []
opening (Some mode) = step.Redirect mode ∷ []

abbrev pub closing : Ending → Option Mode → List Step
closing ending None = []
closing (Status n) (Some mode) = step.Close ∷ []
closing (Exit n) (Some mode) = []

-- A program is waited for, or told of.
abbrev pub awaited : Bool → List Step
awaited true = step.Announce ∷ []
awaited false = step.Wait ∷ []

-- Any other name is a program. With a redirection its file is descriptor 1 while the program starts.
abbrev pub program : Option Mode → Bool → List Step
program None background = step.Spawn false ∷ awaited background
program (Some mode) background =
    step.Redirect mode ∷ step.Keep ∷ step.Direct ∷ step.Let ∷ step.Spawn true ∷ step.Restore ∷ step.Close ∷ awaited background

-- A command that writes to the console until its redirection is opened.
abbrev pub running : List (List ℕ) → List ℕ → Ending → Running
running words file ending = record { words = words; file = file; source = 0; out = 1; opened = []; pid = 0; ending = ending }

-- A word of over 255 bytes, or over 1,024 in a line with spaces between.
abbrev pub is_long : List ℕ → Bool
is_long w = nat_lt 255 (length w)

unfoldable pub is_too_long : List (List ℕ) → List ℕ → Bool
is_too_long words file = list_any is_long words || is_long file || nat_lt 1024 (length (spaced words))

-- A message, and status 1.
abbrev pub refused : List ℕ → Outcome
refused message = say (running [] [] (Status 1)) message []

abbrev pub built_in : Option Mode → List (List ℕ) → List ℕ → Option Body → Outcome
built_in output words file None = refused (bad_arguments (word_at words 0))
built_in output words file (Some body) = go (running words file body.ending) (opening output ++ body.steps ++ closing body.ending output)

-- A command's words and its redirection's file, at a status: what it does.
abbrev pub does_command : Option Builtin → Option Mode → Bool → ℕ → List (List ℕ) → List ℕ → Outcome
does_command (Some which) output background status words file = built_in output words file (body which status words)
does_command None output background status words file =
    if is_long (lines (arguments words)) then refused line_too_long
    else go (running words file (Status 0)) (program output background)

unfoldable pub begun_with : Option Mode → Bool → ℕ → List (List ℕ) → List ℕ → Outcome
begun_with output background status words file =
    if is_too_long words file then refused line_too_long
    else does_command (builtin_named (word_at words 0)) output background status words file
