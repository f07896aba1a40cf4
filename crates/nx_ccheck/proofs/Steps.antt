-- The same rules over what is known of a file so far, as its declarations are checked one after another.
use Rattle.std.specs.Prelude.{◌≡◌, true, false, List, [], ◌∷◌, Option, Some}
use Rattle.std.specs.Map.{lookup}
use Rattle.std.specs.Str.{bytes_eq}
use Rattle.nx_calls.specs.declared.row.CallRow.{CallRow}
use Rattle.nx_ctree.specs.declared.program.Constant.{Constant}
use Rattle.nx_ctree.specs.declared.program.Initialiser.{Initialiser}
use Rattle.nx_ctree.specs.declared.program.Params.{Params}
use Rattle.nx_ctree.specs.declared.program.Function.{Function as Body}
use Rattle.nx_ctree.specs.declared.program.Rest.TheVariants as form
use Rattle.nx_ctree.specs.declared.program.External.{External}
use Rattle.nx_ctree.specs.declared.program.Unit.{Unit as File}
use Rattle.nx_checked.specs.declared.checked.Element.{Element}
use Rattle.nx_checked.specs.declared.checked.Scalar.{Scalar}
use Rattle.nx_checked.specs.declared.checked.CheckedFunction.{CheckedFunction}
use Rattle.nx_checked.specs.declared.checked.Checked.{Checked}
use Rattle.nx_checked.specs.Frames.{bytes_of}
use Rattle.nx_crules.specs.declared.types.Function.{Function}
use Rattle.nx_ctype.specs.declared.used.Used.{Used}
use Rattle.nx_ctype.specs.declared.names.Names.{Names}
use Rattle.nx_cbody.specs.Declarations.{constant_of, is_length, is_long}
use Rattle.nx_cbody.specs.TypedFunctions.{AreParams, IsFunction}
use Rattle.nx_ccheck.specs.Defined.{listed, returns_of}
use Rattle.nx_ccheck.specs.declared.known.Known.{Known}
use Rattle.nx_ccheck.specs.Globals.{is_taken, is_full, scalar_of, element_of, shape_of, fits, rounded, with_scalar, with_array}
use Rattle.nx_ccheck.specs.Files.{is_char, agrees, main_fits, has_all_functions, closed, with_defined, with_checked, beginning, main_of, checked_program}

-- A variable has a name that no variable and no function before it has, and fits beside the variables before it. A prototype gives no name.
pub data IsExternal (rows : List CallRow) : Known → External → Known → Type 0 where
  PlainScalar : (k : Known) (x : External) (w : Scalar) → x.rest ≡ form.Plain → scalar_of x.result ≡ Some w → is_taken k x.name ≡ false → is_long x.name ≡ false → is_full k 4 ≡ false → IsExternal rows k x (with_scalar k x.name w 0)
  ValuedScalar : (k : Known) (x : External) (w : Scalar) (c : Constant) → x.rest ≡ form.Valued c → scalar_of x.result ≡ Some w → is_taken k x.name ≡ false → is_long x.name ≡ false → is_full k 4 ≡ false →
      IsExternal rows k x (with_scalar k x.name w (constant_of c.kind))
  ArrayOf : (k : Known) (x : External) (w : Element) (c : Constant) (i : Option Initialiser) → x.rest ≡ form.Array c i → element_of x.result ≡ Some w → is_taken k x.name ≡ false →
      is_length (constant_of c.kind) ≡ true → fits (shape_of w c) i ≡ true → is_long x.name ≡ false → is_full k (rounded (bytes_of (shape_of w c))) ≡ false → IsExternal rows k x (with_array k x.name (shape_of w c) i)
  Prototype : (k : Known) (x : External) (ps : Params) (d : Names) → x.rest ≡ form.Prototype ps → is_char x.result ≡ false → agrees (lookup (bytes_eq x.name) k.names.functions) x.result (listed ps) ≡ true → is_long x.name ≡ false →
      AreParams (record k.names { locals = [] }) (listed ps) d → IsExternal rows k x (closed k)
  Definition : (k : Known) (x : External) (ps : Params) (f : Body) (g : CheckedFunction) (t : Used) → x.rest ≡ form.Function ps f → is_taken k x.name ≡ false → is_char x.result ≡ false → main_fits x (listed ps) ≡ true →
      is_long x.name ≡ false → has_all_functions k ≡ false → IsFunction rows k.names (returns_of x.result) (listed ps) f k.used g t → IsExternal rows k x (with_checked (with_defined k x.name) (g, t))

pub data AreExternals (rows : List CallRow) : Known → List External → Known → Type 0 where
  NoExternals : (k : Known) → AreExternals rows k [] k
  MoreExternals : (k l m : Known) (x : External) (xs : List External) → IsExternal rows k x l → AreExternals rows l xs m → AreExternals rows k (x ∷ xs) m

-- A file defines a main function.
pub data IsWhole (rows : List CallRow) (file : File) : Checked → Type 0 where
  Program : (k : Known) (f : Function) → AreExternals rows (beginning file.externals) file.externals k → main_of k ≡ Some f → IsWhole rows file (checked_program rows k f)
