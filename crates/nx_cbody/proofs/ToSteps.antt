-- What is well typed by its contexts is checked step by step.
use Rattle.std.proofs.Common.{◌≡◌, Bool, false, nat_lt, List, length, refl, sym, ap, ◌∙◌, subst}
use Rattle.nx_calls.specs.declared.row.CallRow.{CallRow}
use Rattle.nx_ctree.specs.declared.program.Base.{Base}
use Rattle.nx_ctree.specs.declared.program.Param.{Param}
use Rattle.nx_ctree.specs.declared.program.Function.{Function}
use Rattle.nx_ctree.specs.declared.statement.Decl.{Decl}
use Rattle.nx_ctree.specs.declared.statement.Item.{Item}
use Rattle.nx_checked.specs.declared.checked.Cell.TheVariants as cell
use Rattle.nx_checked.specs.declared.checked.CheckedExpr.{CheckedExpr}
use Rattle.nx_checked.specs.declared.checked.CheckedExpr.TheVariants as expr
use Rattle.nx_checked.specs.declared.checked.CheckedFunction.{CheckedFunction}
use Rattle.nx_ctype.specs.declared.names.Names.{Names}
use Rattle.nx_ctype.specs.declared.used.Used.{Used}
use Rattle.nx_ctyping.specs.Trees.{expr_of}
use Rattle.nx_ctyping.specs.HasTypes.{HasType}
use Rattle.nx_cbody.specs.Trees.{stmts_of}
use Rattle.nx_cbody.specs.TypedStatements.{AreTyped}
use Rattle.nx_cbody.specs.Contexts.{is_local, has_six_scalars, free_cell, behind_scalar, behind_array}
use Rattle.nx_cbody.specs.Declarations.{Declared, opening, constant_of, next_cell, with_param, with_scalar, with_array, with_initial}
use Rattle.nx_cbody.specs.Functions.{checked_function, is_large}
use Rattle.nx_cbody.specs.TypedFunctions
use Rattle.nx_cbody.specs.TypedFunctions.{IsParam, AreParams, IsItem, AreItems, AreDecls, IsFunction, typed_function}
use Rattle.nx_cbody.proofs.Steps as steps
use Rattle.nx_cbody.proofs.Contexts.{Opens, Stands, Adds, opens_at, stands_then, param_named, param_opens, counted, scalar_named, array_named, adds_nothing, adds_scalar, adds_array, adds_valued, adds_both, one_function}

param_on : {names next : Names} {p : Param} → IsParam names p next → (f : Declared) → f.names ≡ names → Opens f → (g : Declared) × steps.IsParam f p g × (g.names ≡ next) × Opens g
param_on (TypedFunctions.Parameter names p h e t l n) f q w =
    let fresh : is_local f.names p.name ≡ false = ap (λ m. is_local m p.name) q ∙ t in
    let six : nat_lt 5 (length f.locals.params) ≡ false = ap (λ zs. nat_lt 5 (length zs)) (sym w.params) ∙ (ap has_six_scalars q ∙ n) in
    (with_param f p.name h, steps.Parameter f p h e fresh l six, param_named f p.name h w fresh ∙ ap (λ m. behind_scalar m p.name h) q, param_opens f p.name h w fresh)

pub params_on : {names last : Names} {ps : List Param} → AreParams names ps last → (f : Declared) → f.names ≡ names → Opens f → (g : Declared) × steps.AreParams f ps g × (g.names ≡ last) × Opens g
params_on (TypedFunctions.NoParams names) f q w = (f, steps.NoParams f, q, w)
params_on (TypedFunctions.MoreParams names next last p ps h hs) f q w =
    let r = param_on h f q w in
    let z = params_on hs r.0 r.2 r.3 in
    (z.0, steps.MoreParams f r.0 z.0 p ps r.1 z.1, z.2, z.3)

module _ (rows : List CallRow) where
  item_on : {b : Base} {names next : Names} {i : Item} {s t : Used} {xs : List CheckedExpr} → IsItem rows b names i s xs next t → (f : Declared) → f.names ≡ names → Stands f →
      (g : Declared) × steps.IsItem rows b f i s g t × (g.names ≡ next) × Adds f g xs
  item_on (TypedFunctions.ScalarItem names i h s k e t l) f q w =
      let fresh : is_local f.names i.name ≡ false = ap (λ m. is_local m i.name) q ∙ t in
      (with_scalar f i.name h, steps.ScalarItem f i h s k e fresh l, scalar_named f i.name h w fresh ∙ ap (λ m. behind_scalar m i.name h) q, adds_scalar f i.name h w fresh)
  item_on (TypedFunctions.ArrayItem names i c z s k e g t l) f q w =
      let fresh : is_local f.names i.name ≡ false = ap (λ m. is_local m i.name) q ∙ t in (
        with_array f i.name (record { element = z; count = constant_of c.kind }),
        steps.ArrayItem f i c z s k e g fresh l,
        array_named f i.name (record { element = z; count = constant_of c.kind }) w fresh ∙ ap (λ m. behind_array m i.name (record { element = z; count = constant_of c.kind })) q,
        adds_array f i.name (record { element = z; count = constant_of c.kind }) w fresh,
      )
  item_on (TypedFunctions.ValuedItem names i a h s u y k e t l d o) f q w =
      let fresh : is_local f.names i.name ≡ false = ap (λ m. is_local m i.name) q ∙ t in
      let same : (with_scalar f i.name h).names ≡ behind_scalar names i.name h = scalar_named f i.name h w fresh ∙ ap (λ m. behind_scalar m i.name h) q in
      let typed : HasType (with_scalar f i.name h).names rows (expr_of a) s y u = subst (λ m. HasType m rows (expr_of a) s y u) (sym same) d in
      let cells : expr.Assign h.scalar (next_cell f) y.tree ≡ expr.Assign h.scalar (free_cell names) y.tree =
      ap (λ n. expr.Assign h.scalar (cell.Local n) y.tree) (counted f w) ∙ ap (λ m. expr.Assign h.scalar (free_cell m) y.tree) q in (
        with_initial (with_scalar f i.name h) (expr.Assign h.scalar (next_cell f) y.tree),
        steps.ValuedItem f i a h s u y k e fresh l typed o,
        same,
        adds_valued f i.name h (expr.Assign h.scalar (next_cell f) y.tree) (expr.Assign h.scalar (free_cell names) y.tree) w fresh cells,
      )

  items_on : {b : Base} {names last : Names} {is : List Item} {s t : Used} {xs : List CheckedExpr} → AreItems rows b names is s xs last t → (f : Declared) → f.names ≡ names → Stands f →
      (g : Declared) × steps.AreItems rows b f is s g t × (g.names ≡ last) × Adds f g xs
  items_on (TypedFunctions.NoItems names s) f q w = (f, steps.NoItems f s, q, adds_nothing f w)
  items_on (TypedFunctions.MoreItems names next last i is s t u xs ys h hs) f q w =
      let r = item_on h f q w in
      let z = items_on hs r.0 r.2 r.3.stands in
      (z.0, steps.MoreItems f r.0 z.0 i is s t u r.1 z.1, z.2, adds_both f r.0 z.0 xs ys r.3 z.3)

  decls_on : {names last : Names} {ds : List Decl} {s t : Used} {xs : List CheckedExpr} → AreDecls rows names ds s xs last t → (f : Declared) → f.names ≡ names → Stands f →
      (g : Declared) × steps.AreDecls rows f ds s g t × (g.names ≡ last) × Adds f g xs
  decls_on (TypedFunctions.NoDecls names s) f q w = (f, steps.NoDecls f s, q, adds_nothing f w)
  decls_on (TypedFunctions.MoreDecls names next last d ds s t u xs ys h hs) f q w =
      let r = items_on h f q w in
      let z = decls_on hs r.0 r.2 r.3.stands in
      (z.0, steps.MoreDecls f r.0 z.0 d ds s t u r.1 z.1, z.2, adds_both f r.0 z.0 xs ys r.3 z.3)

  pub typed_on : {names : Names} {returns : Bool} {ps : List Param} {f : Function} {s t : Used} {g : CheckedFunction} → IsFunction rows names returns ps f s g t → steps.IsFunction rows names returns ps f s g t
  typed_on {names = names} {returns = returns} {ps = ps} {f = f} (TypedFunctions.Definition p d xs body s t u hp hd hb l) =
      let q = params_on hp (opening names) refl (opens_at names) in
      let r = decls_on hd q.0 q.2 (stands_then q.0 q.3) in
      let same : checked_function r.0 body ≡ typed_function p d xs body =
      one_function q.0 r.0 xs body q.3 r.3 ∙ (ap (λ m. typed_function m r.0.names xs body) q.2 ∙ ap (λ m. typed_function p m xs body) r.2) in
      subst (λ g. steps.IsFunction rows names returns ps f s g u) same
      (steps.Definition q.0 r.0 body s t u q.1 r.1 (subst (λ m. AreTyped m rows returns (stmts_of f.body) t body u) (sym r.2) hb) (subst (λ g. is_large g ≡ false) (sym same) l))
