-- The commands of the shell itself, by their names.
use Rattle.std.specs.Prelude.{ℕ, List, [], ◌∷◌, codes, Option}
use Rattle.std.specs.List.{find}
use Rattle.std.specs.Str.{bytes_eq}
use Rattle.nx_shrun.specs.declared.builtin.Builtin.{Builtin}
use Rattle.nx_shrun.specs.declared.builtin.Builtin.TheVariants as builtin

-- The commands, in the order of their table.
unfoldable pub all_builtins : List Builtin
all_builtins =
    builtin.Echo ∷ builtin.Cat ∷ builtin.Ls ∷ builtin.Cd ∷ builtin.Mkdir ∷ builtin.Rmdir ∷ builtin.Rm ∷ builtin.Mv ∷
    builtin.Pwd ∷ builtin.Cp ∷ builtin.Set ∷ builtin.Export ∷ builtin.Unset ∷ builtin.Env ∷ builtin.Ps ∷
    builtin.Test ∷ builtin.Bracket ∷ builtin.True ∷ builtin.False ∷ builtin.Sleep ∷ builtin.Exit ∷ []

-- The name by which a script calls it.
abbrev pub name_of : Builtin → List ℕ
name_of builtin.Echo = codes "echo"
name_of builtin.Cat = codes "cat"
name_of builtin.Ls = codes "ls"
name_of builtin.Cd = codes "cd"
name_of builtin.Mkdir = codes "mkdir"
name_of builtin.Rmdir = codes "rmdir"
name_of builtin.Rm = codes "rm"
name_of builtin.Mv = codes "mv"
name_of builtin.Pwd = codes "pwd"
name_of builtin.Cp = codes "cp"
name_of builtin.Set = codes "set"
name_of builtin.Export = codes "export"
name_of builtin.Unset = codes "unset"
name_of builtin.Env = codes "env"
name_of builtin.Ps = codes "ps"
name_of builtin.Test = codes "test"
name_of builtin.Bracket = codes "["
name_of builtin.True = codes "true"
name_of builtin.False = codes "false"
name_of builtin.Sleep = codes "sleep"
name_of builtin.Exit = codes "exit"

-- The command of a name, if it is one of the shell's.
abbrev pub builtin_named : List ℕ → Option Builtin
builtin_named name = find (λ b. bytes_eq name (name_of b)) all_builtins
