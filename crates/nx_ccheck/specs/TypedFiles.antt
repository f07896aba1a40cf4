-- When a file is well typed, and what it does (C11 6.9). A declaration is over the context before it and the one behind it.
use Rattle.std.specs.Prelude.{◌≡◌, ℕ, true, false, List, [], ◌∷◌, ◌++◌, codes, Option, Some}
use Rattle.std.specs.Map.{lookup}
use Rattle.std.specs.Str.{bytes_eq}
use Rattle.nx_calls.specs.declared.row.CallRow.{CallRow}
use Rattle.nx_ctree.specs.declared.program.Constant.{Constant}
use Rattle.nx_ctree.specs.declared.program.Initialiser.{Initialiser}
use Rattle.nx_ctree.specs.declared.program.Params.{Params}
use Rattle.nx_ctree.specs.declared.program.Function.{Function as Body}
use Rattle.nx_ctree.specs.declared.program.Rest.TheVariants as form
use Rattle.nx_ctree.specs.declared.program.External.{External}
use Rattle.nx_ctree.specs.declared.program.Unit.{Unit as File}
use Rattle.nx_checked.specs.declared.checked.Element.{Element}
use Rattle.nx_checked.specs.declared.checked.Scalar.{Scalar}
use Rattle.nx_checked.specs.declared.checked.Shape.{Shape}
use Rattle.nx_checked.specs.declared.checked.GlobalScalar.{GlobalScalar}
use Rattle.nx_checked.specs.declared.checked.GlobalArray.{GlobalArray}
use Rattle.nx_checked.specs.declared.checked.CheckedFunction.{CheckedFunction}
use Rattle.nx_checked.specs.declared.checked.Checked.{Checked}
use Rattle.nx_checked.specs.Frames.{bytes_of}
use Rattle.nx_crules.specs.declared.types.Function.{Function}
use Rattle.nx_ctype.specs.declared.names.Names.{Names}
use Rattle.nx_ctype.specs.declared.used.Used.{Used}
use Rattle.nx_cbody.specs.Declarations.{constant_of, is_length, is_long}
use Rattle.nx_cbody.specs.TypedFunctions.{AreParams, IsFunction}
use Rattle.nx_ccheck.specs.Defined.{listed, returns_of}
use Rattle.nx_ccheck.specs.Globals.{scalar_of, element_of, shape_of, fits, rounded, global_scalar, global_array}
use Rattle.nx_ccheck.specs.Files.{is_char, agrees, main_fits, program_with}
use Rattle.nx_ccheck.specs.Scopes.{Scope, whole, has_name, lacks_room, has_512, behind_scalar, behind_array, behind_function}

-- What a file has.
pub record Parts : Type 0 where
  pub scalars : List GlobalScalar
  pub arrays : List GlobalArray
  pub functions : List CheckedFunction

abbrev pub nothing : Parts
nothing = record { scalars = []; arrays = []; functions = [] }

abbrev pub only_scalar : Scalar → ℕ → Parts
only_scalar w n = record { scalars = global_scalar w n ∷ []; arrays = []; functions = [] }

abbrev pub only_array : Shape → Option Initialiser → Parts
only_array z i = record { scalars = []; arrays = global_array z i ∷ []; functions = [] }

abbrev pub only_function : CheckedFunction → Parts
only_function f = record { scalars = []; arrays = []; functions = f ∷ [] }

abbrev pub with_parts : Parts → Parts → Parts
with_parts y z = record { scalars = y.scalars ++ z.scalars; arrays = y.arrays ++ z.arrays; functions = y.functions ++ z.functions }

-- A variable has a name that no variable and no function before it has, and fits beside the variables before it. A prototype gives no name.
pub data IsExternal (rows : List CallRow) : Scope → External → Used → Parts → Scope → Used → Type 0 where
  PlainScalar : (c : Scope) (x : External) (w : Scalar) (s : Used) → x.rest ≡ form.Plain → scalar_of x.result ≡ Some w → has_name c x.name ≡ false → is_long x.name ≡ false → lacks_room c 4 ≡ false →
      IsExternal rows c x s (only_scalar w 0) (behind_scalar c x.name w) s
  ValuedScalar : (c : Scope) (x : External) (w : Scalar) (n : Constant) (s : Used) → x.rest ≡ form.Valued n → scalar_of x.result ≡ Some w → has_name c x.name ≡ false → is_long x.name ≡ false → lacks_room c 4 ≡ false →
      IsExternal rows c x s (only_scalar w (constant_of n.kind)) (behind_scalar c x.name w) s
  ArrayOf : (c : Scope) (x : External) (w : Element) (n : Constant) (i : Option Initialiser) (s : Used) → x.rest ≡ form.Array n i → element_of x.result ≡ Some w → has_name c x.name ≡ false →
      is_length (constant_of n.kind) ≡ true → fits (shape_of w n) i ≡ true → is_long x.name ≡ false → lacks_room c (rounded (bytes_of (shape_of w n))) ≡ false →
      IsExternal rows c x s (only_array (shape_of w n) i) (behind_array c x.name (shape_of w n)) s
  Prototype : (c : Scope) (x : External) (ps : Params) (d : Names) (s : Used) → x.rest ≡ form.Prototype ps → is_char x.result ≡ false → agrees (lookup (bytes_eq x.name) c.names.functions) x.result (listed ps) ≡ true → is_long x.name ≡ false →
      AreParams (record c.names { locals = [] }) (listed ps) d → IsExternal rows c x s nothing c s
  Definition : (c : Scope) (x : External) (ps : Params) (f : Body) (g : CheckedFunction) (s t : Used) → x.rest ≡ form.Function ps f → has_name c x.name ≡ false → is_char x.result ≡ false → main_fits x (listed ps) ≡ true →
      is_long x.name ≡ false → has_512 c ≡ false → IsFunction rows c.names (returns_of x.result) (listed ps) f s g t → IsExternal rows c x s (only_function g) (behind_function c x.name) t

pub data AreExternals (rows : List CallRow) : Scope → List External → Used → Parts → Scope → Used → Type 0 where
  NoExternals : (c : Scope) (s : Used) → AreExternals rows c [] s nothing c s
  MoreExternals : (c d e : Scope) (x : External) (xs : List External) (s t u : Used) (y z : Parts) → IsExternal rows c x s y d t → AreExternals rows d xs t z e u → AreExternals rows c (x ∷ xs) s (with_parts y z) e u

-- A file's declarations are well typed, each behind those before it, and one of them defines the main function.
pub data IsFile (rows : List CallRow) (file : File) : Checked → Type 0 where
  Program : (c : Scope) (t : Used) (z : Parts) (f : Function) → AreExternals rows (whole file.externals) file.externals (record { texts = []; calls = [] }) z c t → lookup (bytes_eq (codes "main")) c.names.functions ≡ Some f →
      IsFile rows file (program_with rows z.functions z.scalars z.arrays t f)
