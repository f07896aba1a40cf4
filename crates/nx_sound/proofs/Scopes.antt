-- What names stand for is there in the program.
use Rattle.std.proofs.Common.{◌≡◌, ℕ, ◌<◌, ◌≤◌, true, List, length, Option, None, Some}
use Rattle.std.specs.Prelude.{slice_get}
use Rattle.std.specs.Option.{option_or}
use Rattle.std.specs.Map.{lookup}
use Rattle.std.specs.Str.{bytes_eq}
use Rattle.nx_calls.specs.declared.row.CallRow.{CallRow}
use Rattle.nx_crules.specs.declared.types.Function.{Function}
use Rattle.nx_crules.specs.Rules.{starts_thread}
use Rattle.nx_ctype.specs.declared.names.Names.{Names}
use Rattle.nx_ctype.specs.declared.names.Variable.{Variable}
use Rattle.nx_ctype.specs.declared.names.Variable.TheVariants as variable
use Rattle.nx_ctype.specs.declared.used.Used.{Used}
use Rattle.nx_ctype.specs.Lookups.{variable_of}
use Rattle.nx_ctyping.specs.Verdicts.{function_named}
use Rattle.nx_ccheck.specs.Files.{call_of}
use Rattle.nx_cmean.specs.Meaning.{fun_at}
use Rattle.nx_lower.specs.Code.{Source}
use Rattle.nx_lower.specs.Sound.{Stage, IsCell, IsArray}
use Rattle.nx_sound.proofs.Entries.{Each, found}

module _ (S : Source) where
  abbrev pub IsVariable : Stage → Variable → Type 0
  IsVariable z (variable.Scalar x h) = IsCell S z x
  IsVariable z (variable.Array a q) = IsArray S z a

  -- A function of the file as its callers see it.
  pub record IsKnown (f : Function) : Type 0 where
    pub place : f.place < length S.program.functions
    pub params : length f.params ≡ length (fun_at S.program f.place).params

  pub record Stands (z : Stage) (names : Names) : Type 0 where
    pub locals : Each (λ name v. IsVariable z v) names.locals
    pub globals : Each (λ name v. IsVariable z v) names.globals
    pub functions : Each (λ name f. IsKnown f) names.functions

  -- The texts and calls that the program has are all that are used in the end.
  pub record Ends (rows : List CallRow) (last : Used) : Type 0 where
    pub texts : length last.texts ≤ length S.texts
    pub calls : (k i : ℕ) (row : CallRow) → slice_get last.calls k ≡ Some i → slice_get rows i ≡ Some row → slice_get S.program.calls k ≡ Some (call_of row)
    pub entries : (i : ℕ) (row : CallRow) → slice_get rows i ≡ Some row → starts_thread row.kernel ≡ true → length row.kinds.items ≡ 2

  variable_in : (z : Stage) (name : List ℕ) (a b : Option Variable) (v : Variable) → option_or a b ≡ Some v → (a ≡ Some v → IsVariable z v) → (b ≡ Some v → IsVariable z v) → IsVariable z v
  variable_in z name None b v h f g = g h
  variable_in z name (Some x) b v h f g = f h

  pub variable_there : (z : Stage) (names : Names) (name : List ℕ) (v : Variable) → Stands z names → variable_of names name ≡ Some v → IsVariable z v
  variable_there z names name v w h =
      variable_in z name (lookup (bytes_eq name) names.locals) (lookup (bytes_eq name) names.globals) v h
      (λ g. (found (λ key v. IsVariable z v) name names.locals v g w.locals).holds)
      (λ g. (found (λ key v. IsVariable z v) name names.globals v g w.globals).holds)

  pub function_there : (z : Stage) (names : Names) (name : List ℕ) (f : Function) → Stands z names → function_named names name ≡ Some f → IsKnown f
  function_there z names name f w h = (found (λ key f. IsKnown f) name names.functions f h w.functions).holds
