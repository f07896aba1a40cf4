-- What is checked step by step is well typed by its contexts.
use Rattle.std.proofs.Common.{◌≡◌, Bool, false, nat_lt, List, [], ◌∷◌, ◌++◌, length, sym, ap, ◌∙◌, subst}
use Rattle.nx_calls.specs.declared.row.CallRow.{CallRow}
use Rattle.nx_ctree.specs.declared.program.Base.{Base}
use Rattle.nx_ctree.specs.declared.program.Param.{Param}
use Rattle.nx_ctree.specs.declared.program.Function.{Function}
use Rattle.nx_ctree.specs.declared.statement.Decl.{Decl}
use Rattle.nx_ctree.specs.declared.statement.Item.{Item}
use Rattle.nx_checked.specs.declared.checked.Cell.TheVariants as cell
use Rattle.nx_checked.specs.declared.checked.CheckedExpr.{CheckedExpr}
use Rattle.nx_checked.specs.declared.checked.CheckedExpr.TheVariants as expr
use Rattle.nx_checked.specs.declared.checked.CheckedFunction.{CheckedFunction}
use Rattle.nx_ctype.specs.declared.names.Names.{Names}
use Rattle.nx_ctype.specs.declared.used.Used.{Used}
use Rattle.nx_ctyping.specs.Trees.{expr_of}
use Rattle.nx_ctyping.specs.HasTypes.{HasType}
use Rattle.nx_cbody.specs.Contexts.{has_six_scalars, free_cell, behind_scalar}
use Rattle.nx_cbody.specs.Declarations.{Declared, constant_of, next_cell}
use Rattle.nx_cbody.specs.Functions.{checked_function, is_large}
use Rattle.nx_cbody.specs.TypedFunctions
use Rattle.nx_cbody.specs.TypedFunctions.{IsParam, AreParams, IsItem, AreItems, AreDecls, IsFunction, typed_function}
use Rattle.nx_cbody.proofs.Steps as steps
use Rattle.nx_cbody.proofs.Contexts.{Opens, Stands, Adds, opens_at, stands_then, param_named, param_opens, counted, scalar_named, array_named, adds_nothing, adds_scalar, adds_array, adds_valued, adds_both, one_function}

param_back : {f g : Declared} {p : Param} → steps.IsParam f p g → Opens f → IsParam f.names p g.names × Opens g
param_back (steps.Parameter f p h e t l n) w =
    let six : has_six_scalars f.names ≡ false = ap (λ zs. nat_lt 5 (length zs)) w.params ∙ n in
    (subst (λ names. IsParam f.names p names) (sym (param_named f p.name h w t)) (TypedFunctions.Parameter f.names p h e t l six), param_opens f p.name h w t)

pub params_back : {f g : Declared} {ps : List Param} → steps.AreParams f ps g → Opens f → AreParams f.names ps g.names × Opens g
params_back (steps.NoParams f) w = (TypedFunctions.NoParams f.names, w)
params_back (steps.MoreParams f g k p ps h hs) w =
    let q = param_back h w in
    let r = params_back hs q.1 in
    (TypedFunctions.MoreParams f.names g.names k.names p ps q.0 r.0, r.1)

module _ (rows : List CallRow) where
  item_back : {b : Base} {f g : Declared} {i : Item} {s t : Used} → steps.IsItem rows b f i s g t → Stands f → (xs : List CheckedExpr) × IsItem rows b f.names i s xs g.names t × Adds f g xs
  item_back {b = b} (steps.ScalarItem f i h s k e t l) w =
      ([], subst (λ names. IsItem rows b f.names i s [] names s) (sym (scalar_named f i.name h w t)) (TypedFunctions.ScalarItem f.names i h s k e t l), adds_scalar f i.name h w t)
  item_back {b = b} (steps.ArrayItem f i c z s k e g t l) w = (
    [],
    subst (λ names. IsItem rows b f.names i s [] names s) (sym (array_named f i.name (record { element = z; count = constant_of c.kind }) w t)) (TypedFunctions.ArrayItem f.names i c z s k e g t l),
    adds_array f i.name (record { element = z; count = constant_of c.kind }) w t,
  )
  item_back {b = b} (steps.ValuedItem f i a h s u y k e t l d o) w =
      let same = scalar_named f i.name h w t in
      let typed : HasType (behind_scalar f.names i.name h) rows (expr_of a) s y u = subst (λ names. HasType names rows (expr_of a) s y u) same d in (
        expr.Assign h.scalar (free_cell f.names) y.tree ∷ [],
        subst (λ names. IsItem rows b f.names i s (expr.Assign h.scalar (free_cell f.names) y.tree ∷ []) names u) (sym same) (TypedFunctions.ValuedItem f.names i a h s u y k e t l typed o),
        adds_valued f i.name h (expr.Assign h.scalar (next_cell f) y.tree) (expr.Assign h.scalar (free_cell f.names) y.tree) w t (ap (λ n. expr.Assign h.scalar (cell.Local n) y.tree) (counted f w)),
      )

  items_back : {b : Base} {f g : Declared} {is : List Item} {s t : Used} → steps.AreItems rows b f is s g t → Stands f → (xs : List CheckedExpr) × AreItems rows b f.names is s xs g.names t × Adds f g xs
  items_back (steps.NoItems f s) w = ([], TypedFunctions.NoItems f.names s, adds_nothing f w)
  items_back (steps.MoreItems f g k i is s t u h hs) w =
      let q = item_back h w in
      let r = items_back hs q.2.stands in
      (q.0 ++ r.0, TypedFunctions.MoreItems f.names g.names k.names i is s t u q.0 r.0 q.1 r.1, adds_both f g k q.0 r.0 q.2 r.2)

  decls_back : {f g : Declared} {ds : List Decl} {s t : Used} → steps.AreDecls rows f ds s g t → Stands f → (xs : List CheckedExpr) × AreDecls rows f.names ds s xs g.names t × Adds f g xs
  decls_back (steps.NoDecls f s) w = ([], TypedFunctions.NoDecls f.names s, adds_nothing f w)
  decls_back (steps.MoreDecls f g k d ds s t u h hs) w =
      let q = items_back h w in
      let r = decls_back hs q.2.stands in
      (q.0 ++ r.0, TypedFunctions.MoreDecls f.names g.names k.names d ds s t u q.0 r.0 q.1 r.1, adds_both f g k q.0 r.0 q.2 r.2)

  pub typed_back : {names : Names} {returns : Bool} {ps : List Param} {f : Function} {s t : Used} {g : CheckedFunction} → steps.IsFunction rows names returns ps f s g t → IsFunction rows names returns ps f s g t
  typed_back {names = names} {returns = returns} {ps = ps} {f = f} (steps.Definition p d body s t u hp hd hb l) =
      let q = params_back hp (opens_at names) in
      let r = decls_back hd (stands_then p q.1) in
      let same : checked_function d body ≡ typed_function p.names d.names r.0 body = one_function p d r.0 body q.1 r.2 in
      subst (λ g. IsFunction rows names returns ps f s g u) (sym same)
      (TypedFunctions.Definition p.names d.names r.0 body s t u q.0 r.1 hb (subst (λ g. is_large g ≡ false) same l))
