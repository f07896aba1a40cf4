-- Which files are well typed and what they do, or their first fault (C11 6.9): declarations and definitions in their order.
use Rattle.std.specs.Prelude.{ℕ, ◌==◌, Bool, true, false, ◌&&◌, ◌||◌, not, nat_lt, List, [], ◌∷◌, ◌++◌, length, codes, slice_get, Option, None, Some, Result, Ok, Err, if◌then◌else◌}
use Rattle.std.specs.List.{list_all, zip}
use Rattle.std.specs.Map.{lookup}
use Rattle.std.specs.Str.{bytes_eq}
use Rattle.nx_calls.specs.declared.row.CallRow.{CallRow}
use Rattle.nx_ctok.specs.declared.fault.CKind.TheVariants as kind
use Rattle.nx_ctok.specs.declared.fault.CFault.{CFault}
use Rattle.nx_ctok.specs.declared.fault.CFault.TheVariants as fault
use Rattle.nx_ctree.specs.declared.program.TypeWord.{TypeWord}
use Rattle.nx_ctree.specs.declared.program.TypeWord.TheVariants as word
use Rattle.nx_ctree.specs.declared.program.Param.{Param}
use Rattle.nx_ctree.specs.declared.program.Function.{Function as Body}
use Rattle.nx_ctree.specs.declared.program.Rest.{Rest}
use Rattle.nx_ctree.specs.declared.program.Rest.TheVariants as form
use Rattle.nx_ctree.specs.declared.program.External.{External}
use Rattle.nx_ctree.specs.declared.program.Unit.{Unit as File}
use Rattle.nx_checked.specs.declared.checked.Element.{Element}
use Rattle.nx_checked.specs.declared.checked.Element.TheVariants as element
use Rattle.nx_checked.specs.declared.checked.Scalar.{Scalar}
use Rattle.nx_checked.specs.declared.checked.Scalar.TheVariants as scalar
use Rattle.nx_checked.specs.declared.checked.CheckedFunction.{CheckedFunction}
use Rattle.nx_checked.specs.declared.checked.GlobalScalar.{GlobalScalar}
use Rattle.nx_checked.specs.declared.checked.GlobalArray.{GlobalArray}
use Rattle.nx_checked.specs.declared.checked.UsedCall.{UsedCall}
use Rattle.nx_checked.specs.declared.checked.Checked.{Checked}
use Rattle.nx_crules.specs.declared.types.Held.{Held}
use Rattle.nx_crules.specs.declared.types.Function.{Function}
use Rattle.nx_ctype.specs.declared.used.Used.{Used}
use Rattle.nx_ctyping.specs.Checks.{◌>>=◌}
use Rattle.nx_cbody.specs.Declarations.{constant_of, is_long, first_of, unless, opening, params_verdict}
use Rattle.nx_cbody.specs.Functions.{function_verdict}
use Rattle.nx_ccheck.specs.Defined.{listed, returns_of, heads, functions_from}
use Rattle.nx_ccheck.specs.declared.known.Known.{Known}
use Rattle.nx_ccheck.specs.Globals.{is_taken, scalar_of, scalar_verdict, element_of, array_verdict}

-- No function returns a char.
abbrev pub is_char : TypeWord → Bool
is_char word.Char = true
is_char _ = false

-- A prototype and its function have one result and the same types of parameters.
abbrev pub same_bool : Bool → Bool → Bool
same_bool true b = b
same_bool false true = false
same_bool false false = true

abbrev pub same_element : Element → Element → Bool
same_element element.Int element.Int = true
same_element element.Char element.Char = true
same_element _ _ = false

abbrev pub same_scalar : Scalar → Scalar → Bool
same_scalar scalar.Int scalar.Int = true
same_scalar scalar.Char scalar.Char = true
same_scalar (scalar.Pointer v) (scalar.Pointer w) = same_element v w
same_scalar _ _ = false

abbrev pub same_held : Held → Held → Bool
same_held g h = same_scalar g.scalar h.scalar && same_bool g.constant h.constant

abbrev pub same_heads : List Held → List Held → Bool
same_heads gs hs = (length gs == length hs) && list_all (λ p. same_held p.0 p.1) (zip gs hs)

-- A prototype agrees with its function, where the file has one.
abbrev pub agrees : Option Function → TypeWord → List Param → Bool
agrees None w ps = true
agrees (Some f) w ps = same_bool f.returns (returns_of w) && same_heads f.params (heads ps)

-- The names of a function's parameters and locals are let go behind it.
abbrev pub closed : Known → Known
closed k = record k { names = record k.names { locals = [] } }

-- Its own faults count, but it gives no name.
abbrev pub prototype_verdict : Known → External → List Param → Result Known CFault
prototype_verdict k x ps =
    unless (first_of false (is_char x.result || not (agrees (lookup (bytes_eq x.name) k.names.functions) x.result ps)) (is_long x.name)) x.line
    (params_verdict (opening k.names) ps >>= (λ p. Ok (closed k)))

-- The main function is `int main(void)` or `int main()`.
abbrev pub is_main : List ℕ → Bool
is_main name = bytes_eq name (codes "main")

abbrev pub is_empty : {A : Type 0} → List A → Bool
is_empty [] = true
is_empty (x ∷ xs) = false

abbrev pub main_fits : External → List Param → Bool
main_fits x ps = if is_main x.name then returns_of x.result && is_empty ps else true

-- A file has at most 512 functions.
abbrev pub has_all_functions : Known → Bool
has_all_functions k = nat_lt 511 (length k.functions)

abbrev pub with_defined : Known → List ℕ → Known
with_defined k name = record k { defined = k.defined ++ name ∷ [] }

abbrev pub with_checked : Known → CheckedFunction × Used → Known
with_checked k r = record (closed k) { functions = k.functions ++ r.0 ∷ []; used = r.1 }

abbrev pub definition_verdict : List CallRow → Known → External → List Param → Body → Result Known CFault
definition_verdict rows k x ps f =
    unless (first_of (is_taken k x.name) (is_char x.result || not (main_fits x ps)) (is_long x.name || has_all_functions k)) x.line
    (function_verdict rows k.names x.line (returns_of x.result) ps f k.used >>= (λ r. Ok (with_checked (with_defined k x.name) r)))

-- One declaration or definition after another.
abbrev pub rest_verdict : List CallRow → Known → External → Rest → Result Known CFault
rest_verdict rows k x form.Plain = scalar_verdict k x (scalar_of x.result) 0
rest_verdict rows k x (form.Valued c) = scalar_verdict k x (scalar_of x.result) (constant_of c.kind)
rest_verdict rows k x (form.Array c i) = array_verdict k x (element_of x.result) c i
rest_verdict rows k x (form.Prototype ps) = prototype_verdict k x (listed ps)
rest_verdict rows k x (form.Function ps f) = definition_verdict rows k x (listed ps) f

abbrev pub externals_verdict : List CallRow → Known → List External → Result Known CFault
externals_verdict rows k [] = Ok k
externals_verdict rows k (x ∷ xs) = rest_verdict rows k x x.rest >>= (λ l. externals_verdict rows l xs)

-- The calls of the table that are used.
abbrev pub call_of : CallRow → UsedCall
call_of row = record { name = row.name; number = row.number; kinds = row.kinds.items; returns = row.returns }

abbrev pub call_at : Option CallRow → List UsedCall
call_at None = []
call_at (Some row) = call_of row ∷ []

abbrev pub calls_of : List CallRow → List ℕ → List UsedCall
calls_of rows [] = []
calls_of rows (i ∷ is) = call_at (slice_get rows i) ++ calls_of rows is

-- A program of these functions and variables, with the texts and the calls that they use, and this main function.
abbrev pub program_with : List CallRow → List CheckedFunction → List GlobalScalar → List GlobalArray → Used → Function → Checked
program_with rows fs xs zs s f = record { functions = fs; main = f.place; scalars = xs; arrays = zs; literals = s.texts; calls = calls_of rows s.calls }

abbrev pub checked_program : List CallRow → Known → Function → Checked
checked_program rows k f = program_with rows k.functions k.scalars k.arrays k.used f

-- A file without a main function is refused at line 0, after all other faults.
abbrev pub program_of : List CallRow → Known → Option Function → Result Checked CFault
program_of rows k None = Err (fault.Text 0 kind.NoMain)
program_of rows k (Some f) = Ok (checked_program rows k f)

-- At a file's beginning only its functions are known.
abbrev pub beginning : List External → Known
beginning xs = record {
  names = record { functions = functions_from 0 [] xs; globals = []; locals = [] };
  defined = [];
  scalars = [];
  arrays = [];
  bytes = 0;
  functions = [];
  used = record { texts = []; calls = [] };
}

abbrev pub main_of : Known → Option Function
main_of k = lookup (bytes_eq (codes "main")) k.names.functions

abbrev pub file_verdict : List CallRow → File → Result Checked CFault
file_verdict rows file = do
  k ← externals_verdict rows (beginning file.externals) file.externals
  program_of rows k (main_of k)
