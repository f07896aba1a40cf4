-- The texts that the shell writes.
use Rattle.std.specs.Prelude.{ℕ, ◌==◌, if◌then◌else◌, List, [], ◌∷◌, ◌++◌, drop, codes, decimal}
use Rattle.std.specs.List.{list_any}
use Rattle.nx_base.specs.KernelCalls.{name_of}
use Rattle.nx_base.specs.declared.calls.KCall.{KCall}
use Rattle.nx_ksys.specs.Answers.{input_at}

-- A word of a command, by its place; word 0 is the command's name.
abbrev pub word_at : List (List ℕ) → ℕ → List ℕ
word_at words place = input_at words place

abbrev pub arguments : List (List ℕ) → List (List ℕ)
arguments words = drop 1 words

-- The words before the last, and the last.
abbrev pub all_but_last : List (List ℕ) → List (List ℕ)
all_but_last [] = []
all_but_last (w ∷ []) = []
all_but_last (w ∷ v ∷ ws) = w ∷ all_but_last (v ∷ ws)

abbrev pub last_of : List (List ℕ) → List ℕ
last_of [] = []
last_of (w ∷ []) = w
last_of (w ∷ v ∷ ws) = last_of (v ∷ ws)

-- Words with a space between.
unfoldable pub spaced : List (List ℕ) → List ℕ
spaced [] = []
spaced (w ∷ []) = w
spaced (w ∷ v ∷ ws) = w ++ 32 ∷ spaced (v ∷ ws)

-- A text on a line of its own.
abbrev pub line : List ℕ → List ℕ
line text = text ++ 10 ∷ []

-- Words, each ended by a newline.
unfoldable pub lines : List (List ℕ) → List ℕ
lines [] = []
lines (w ∷ ws) = line w ++ lines ws

unfoldable pub echo_text : List (List ℕ) → List ℕ
echo_text words = line (spaced (arguments words))

-- Where a program lies: its name is a path where it has a `/`.
unfoldable pub program_path : List ℕ → List ℕ
program_path name = if list_any (λ b. b == 47) name then name else codes "/bin/" ++ name

-- `NAME [PID:100]`
unfoldable pub announcement : List ℕ → ℕ → List ℕ
announcement name pid = line (name ++ codes " [" ++ decimal pid ++ codes ":100]")

-- Messages.
unfoldable pub failure_message : List ℕ → KCall → ℕ → List ℕ
failure_message name which errno = line (codes "nsh: " ++ name ++ codes ": " ++ name_of which ++ codes " failed: " ++ decimal errno)

unfoldable pub bad_arguments : List ℕ → List ℕ
bad_arguments name = line (codes "nsh: " ++ name ++ codes ": bad arguments")

unfoldable pub command_not_found : List ℕ → List ℕ
command_not_found name = line (codes "nsh: " ++ name ++ codes ": command not found")

unfoldable pub line_too_long : List ℕ
line_too_long = line (codes "nsh: line too long")
