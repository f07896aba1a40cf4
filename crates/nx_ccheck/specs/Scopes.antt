-- The context of a file's declarations: what each name stands for there, by what stands before it, and which functions stand before it.
use Rattle.std.specs.Prelude.{ℕ, ◌+◌, Bool, false, ◌||◌, nat_lt, List, [], ◌∷◌, ◌++◌, length, is_some}
use Rattle.std.specs.List.{list_any}
use Rattle.std.specs.Map.{lookup}
use Rattle.std.specs.Str.{bytes_eq}
use Rattle.nx_ctree.specs.declared.program.External.{External}
use Rattle.nx_checked.specs.declared.checked.Scalar.{Scalar}
use Rattle.nx_checked.specs.declared.checked.Shape.{Shape}
use Rattle.nx_checked.specs.declared.checked.Cell.TheVariants as cell
use Rattle.nx_checked.specs.declared.checked.ArrayName.TheVariants as array
use Rattle.nx_checked.specs.Frames.{bytes_of}
use Rattle.nx_ctype.specs.declared.names.Names.{Names}
use Rattle.nx_ctype.specs.declared.names.Variable.{Variable}
use Rattle.nx_ctype.specs.declared.names.Variable.TheVariants as variable
use Rattle.nx_cbody.specs.Contexts.{scalars_in, shapes_in}
use Rattle.nx_ccheck.specs.Defined.{functions_from}
use Rattle.nx_ccheck.specs.Globals.{rounded}

pub record Scope : Type 0 where
  pub names : Names
  pub functions : List (List ℕ)

-- At a file's beginning all its functions are known, and none stands before.
abbrev pub whole : List External → Scope
whole xs = record { names = record { functions = functions_from 0 [] xs; globals = []; locals = [] }; functions = [] }

-- Variables and functions of a file have different names.
abbrev pub has_name : Scope → List ℕ → Bool
has_name c name = is_some (lookup (bytes_eq name) c.names.globals) || list_any (bytes_eq name) c.functions

-- The bytes of variables: 4 for each that is no array, and those of each array rounded up to 4.
abbrev pub variable_bytes : Variable → ℕ
variable_bytes (variable.Scalar x h) = 4
variable_bytes (variable.Array a z) = rounded (bytes_of z)

abbrev pub bytes_in : List (List ℕ × Variable) → ℕ
bytes_in [] = 0
bytes_in (e ∷ es) = variable_bytes e.1 + bytes_in es

-- The variables of a file take at most 1,048,576 bytes.
abbrev pub lacks_room : Scope → ℕ → Bool
lacks_room c n = nat_lt 1048576 (bytes_in c.names.globals + n)

-- A file has at most 512 functions.
abbrev pub has_512 : Scope → Bool
has_512 c = nat_lt 511 (length c.functions)

-- The context behind a variable and behind a function. A variable has the number of those before it.
abbrev pub behind : Scope → List ℕ → Variable → Scope
behind c name v = record c { names = record c.names { globals = c.names.globals ++ (name, v) ∷ [] } }

abbrev pub behind_scalar : Scope → List ℕ → Scalar → Scope
behind_scalar c name w = behind c name (variable.Scalar (cell.Global (length (scalars_in c.names.globals))) (record { scalar = w; constant = false }))

abbrev pub behind_array : Scope → List ℕ → Shape → Scope
behind_array c name z = behind c name (variable.Array (array.Global (length (shapes_in c.names.globals))) z)

abbrev pub behind_function : Scope → List ℕ → Scope
behind_function c name = record c { functions = c.functions ++ name ∷ [] }
