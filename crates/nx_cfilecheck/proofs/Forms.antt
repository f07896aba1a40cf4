-- What stands after a name at file level.
use Rattle.std.proofs.Common.{◌≡◌, ℕ, List, sym, subst}
use Rattle.std.specs.Prelude.{Option, Result}
use Rattle.nx_calls.specs.declared.row.CallRow.{CallRow}
use Rattle.nx_ctok.specs.declared.fault.CFault.{CFault}
use Rattle.nx_ctree.specs.declared.program.Constant.{Constant}
use Rattle.nx_ctree.specs.declared.program.External.{External}
use Rattle.nx_ctree.specs.declared.program.Function.{Function as Body}
use Rattle.nx_ctree.specs.declared.program.Initialiser.{Initialiser}
use Rattle.nx_ctree.specs.declared.program.Param.{Param}
use Rattle.nx_ctree.specs.declared.program.Params.{Params}
use Rattle.nx_ctree.specs.declared.program.Rest.{Rest}
use Rattle.nx_ctree.specs.declared.program.Rest.TheVariants as form
use Rattle.nx_checked.specs.declared.checked.Element.{Element}
use Rattle.nx_checked.specs.declared.checked.Scalar.{Scalar}
use Rattle.nx_cbody.specs.Declarations.{constant_of}
use Rattle.nx_cdeclcheck.specs.Done.{IsDone}
use Rattle.nx_ccheck.specs.Defined.{listed}
use Rattle.nx_ccheck.specs.Globals.{scalar_of, scalar_verdict, element_of, array_verdict}
use Rattle.nx_ccheck.specs.Files.{rest_verdict, prototype_verdict, definition_verdict}
use Rattle.nx_ccheck.specs.declared.known.Known.{Known}

module _ (rows : List CallRow) (k : Known) (x : External) (q : Result (Unit {0}) CFault) (d : Known) where
  by_form : (r : Rest) → x.rest ≡ r → IsDone q d (rest_verdict rows k x r) → IsDone q d (rest_verdict rows k x x.rest)
  by_form r h g = subst (λ (r : Rest). IsDone q d (rest_verdict rows k x r)) (sym h) g

  pub plain_done : (o : Option Scalar) → x.rest ≡ form.Plain → o ≡ scalar_of x.result → IsDone q d (scalar_verdict k x o 0) → IsDone q d (rest_verdict rows k x x.rest)
  plain_done o h e g = by_form form.Plain h (subst (λ (o : Option Scalar). IsDone q d (scalar_verdict k x o 0)) e g)

  pub valued_done : (c : Constant) (o : Option Scalar) (n : ℕ) → x.rest ≡ form.Valued c → o ≡ scalar_of x.result → n ≡ constant_of c.kind → IsDone q d (scalar_verdict k x o n) → IsDone q d (rest_verdict rows k x x.rest)
  valued_done c o n h e m g =
      by_form (form.Valued c) h (subst (λ (n : ℕ). IsDone q d (scalar_verdict k x (scalar_of x.result) n)) m (subst (λ (o : Option Scalar). IsDone q d (scalar_verdict k x o n)) e g))

  pub array_done : (c : Constant) (i : Option Initialiser) (o : Option Element) → x.rest ≡ form.Array c i → o ≡ element_of x.result → IsDone q d (array_verdict k x o c i) → IsDone q d (rest_verdict rows k x x.rest)
  array_done c i o h e g = by_form (form.Array c i) h (subst (λ (o : Option Element). IsDone q d (array_verdict k x o c i)) e g)

  pub prototype_done : (ps : Params) (l : List Param) → x.rest ≡ form.Prototype ps → l ≡ listed ps → IsDone q d (prototype_verdict k x l) → IsDone q d (rest_verdict rows k x x.rest)
  prototype_done ps l h e g = by_form (form.Prototype ps) h (subst (λ (l : List Param). IsDone q d (prototype_verdict k x l)) e g)

  pub definition_done : (ps : Params) (f : Body) (l : List Param) → x.rest ≡ form.Function ps f → l ≡ listed ps → IsDone q d (definition_verdict rows k x l f) → IsDone q d (rest_verdict rows k x x.rest)
  definition_done ps f l h e g = by_form (form.Function ps f) h (subst (λ (l : List Param). IsDone q d (definition_verdict rows k x l f)) e g)
