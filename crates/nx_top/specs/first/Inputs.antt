-- What each file of a run has to be. nx_config, nx_calls and nx_shtree will take its place.
use Rattle.std.specs.Prelude.{◌≡◌, ℕ, false, List, [], ◌∷◌, ◌++◌, codes, Option, Some}
use Rattle.std.specs.List.{list_any}
use Rattle.std.specs.Str.{bytes_eq}
use Rattle.nx_top.specs.first.Program.{Program, IsProgram}

-- the flat build
unfoldable pub config_text : List ℕ
config_text = codes "CONFIG_BUILD_FLAT=y" ++ 10 ∷ []

abbrev pub quote : List ℕ → List ℕ
quote field = 34 ∷ (field ++ 34 ∷ [])

-- the call table of one row: write
unfoldable pub calls_text : List ℕ
calls_text =
    quote (codes "write") ++ 44 ∷ quote (codes "nxsim.h") ++ 44 ∷ quote [] ++ 44 ∷ quote (codes "int") ++ 44 ∷ quote (codes "int") ++ 44 ∷ quote (codes "const void *") ++ 44 ∷ quote (codes "size_t") ++ 10 ∷ []

-- the shell's own commands, except the one that is no name, and its reserved words
unfoldable pub shell_words : List (List ℕ)
shell_words =
    codes "echo" ∷ codes "cat" ∷ codes "ls" ∷ codes "cd" ∷ codes "mkdir" ∷ codes "rmdir" ∷ codes "rm" ∷ codes "mv" ∷ codes "pwd" ∷ codes "cp"
    ∷ codes "set" ∷ codes "export" ∷ codes "unset" ∷ codes "env" ∷ codes "ps" ∷ codes "test" ∷ codes "true" ∷ codes "false" ∷ codes "sleep" ∷ codes "exit"
    ∷ codes "if" ∷ codes "then" ∷ codes "else" ∷ codes "fi" ∷ codes "while" ∷ codes "until" ∷ codes "do" ∷ codes "done" ∷ []

abbrev pub IsConfig : Option (List ℕ) → Type 0
IsConfig got = got ≡ Some config_text

abbrev pub IsCalls : Option (List ℕ) → Type 0
IsCalls got = got ≡ Some calls_text

-- a program of the grammar
pub record HasProgram (got : Option (List ℕ)) (p : Program) : Type 0 where
  pub bytes : List ℕ
  pub got_is : got ≡ Some bytes
  pub reads : IsProgram bytes p

-- the program's name and a newline, where the name is no word of the shell
pub record IsScript (name : List ℕ) (got : Option (List ℕ)) : Type 0 where
  pub got_is : got ≡ Some (name ++ 10 ∷ [])
  pub free : list_any (bytes_eq name) shell_words ≡ false
