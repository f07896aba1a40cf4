-- The context of a function's declarations and statements: what each name stands for there, by what stands before it.
use Rattle.std.specs.Prelude.{ℕ, Bool, nat_lt, List, [], ◌∷◌, ◌++◌, length, is_some}
use Rattle.std.specs.Map.{lookup}
use Rattle.std.specs.Str.{bytes_eq}
use Rattle.nx_checked.specs.declared.checked.Scalar.{Scalar}
use Rattle.nx_checked.specs.declared.checked.Shape.{Shape}
use Rattle.nx_checked.specs.declared.checked.Cell.{Cell}
use Rattle.nx_checked.specs.declared.checked.Cell.TheVariants as cell
use Rattle.nx_checked.specs.declared.checked.ArrayName.{ArrayName}
use Rattle.nx_checked.specs.declared.checked.ArrayName.TheVariants as array
use Rattle.nx_crules.specs.declared.types.Held.{Held}
use Rattle.nx_ctype.specs.declared.names.Names.{Names}
use Rattle.nx_ctype.specs.declared.names.Variable.{Variable}
use Rattle.nx_ctype.specs.declared.names.Variable.TheVariants as variable

-- What variables hold that are no arrays, and the shapes of those that are, in their order.
abbrev pub scalars_of : Variable → List Scalar
scalars_of (variable.Scalar x h) = h.scalar ∷ []
scalars_of (variable.Array a z) = []

abbrev pub scalars_in : List (List ℕ × Variable) → List Scalar
scalars_in [] = []
scalars_in (e ∷ es) = scalars_of e.1 ++ scalars_in es

abbrev pub shapes_of : Variable → List Shape
shapes_of (variable.Scalar x h) = []
shapes_of (variable.Array a z) = z ∷ []

abbrev pub shapes_in : List (List ℕ × Variable) → List Shape
shapes_in [] = []
shapes_in (e ∷ es) = shapes_of e.1 ++ shapes_in es

-- Whether a parameter or local has a name.
abbrev pub is_local : Names → List ℕ → Bool
is_local names name = is_some (lookup (bytes_eq name) names.locals)

-- A function has at most 6 parameters.
abbrev pub has_six_scalars : Names → Bool
has_six_scalars names = nat_lt 5 (length (scalars_in names.locals))

-- The next cell and the next array: each variable has the number of those before it.
abbrev pub free_cell : Names → Cell
free_cell names = cell.Local (length (scalars_in names.locals))

abbrev pub free_array : Names → ArrayName
free_array names = array.Local (length (shapes_in names.locals))

-- The context behind a declaration.
abbrev pub behind : Names → List ℕ → Variable → Names
behind names name v = record names { locals = names.locals ++ (name, v) ∷ [] }

abbrev pub behind_scalar : Names → List ℕ → Held → Names
behind_scalar names name h = behind names name (variable.Scalar (free_cell names) h)

abbrev pub behind_array : Names → List ℕ → Shape → Names
behind_array names name z = behind names name (variable.Array (free_array names) z)
