-- Well typed declarations and functions are accepted, with what they do.
use Rattle.std.proofs.Common.{◌≡◌, ℕ, Bool, true, false, List, Some, refl, ap, ◌∙◌}
use Rattle.std.specs.Prelude.{◌||◌, not, Ok, if◌then◌else◌}
use Rattle.nx_calls.specs.declared.row.CallRow.{CallRow}
use Rattle.nx_ctree.specs.declared.expression.AssignOperator.TheVariants as assign
use Rattle.nx_ctree.specs.declared.expression.Expr.{Expr}
use Rattle.nx_ctree.specs.declared.program.Base.{Base}
use Rattle.nx_ctree.specs.declared.program.Param.{Param}
use Rattle.nx_ctree.specs.declared.program.Function.{Function}
use Rattle.nx_ctree.specs.declared.statement.Decl.{Decl}
use Rattle.nx_ctree.specs.declared.statement.Item.{Item}
use Rattle.nx_checked.specs.declared.checked.Cell.{Cell}
use Rattle.nx_checked.specs.declared.checked.Element.{Element}
use Rattle.nx_checked.specs.declared.checked.CheckedExpr.TheVariants as expr
use Rattle.nx_checked.specs.declared.checked.CheckedFunction.{CheckedFunction}
use Rattle.nx_crules.specs.declared.types.Held.{Held}
use Rattle.nx_crules.specs.declared.types.Typed.{Typed}
use Rattle.nx_crules.specs.declared.types.Target.TheVariants as target
use Rattle.nx_crules.specs.Types.{type_of, takes}
use Rattle.nx_crules.specs.Rules.{wrong, typed, assign_rule}
use Rattle.nx_ctype.specs.declared.names.Names.{Names}
use Rattle.nx_ctype.specs.declared.used.Used.{Used}
use Rattle.nx_ctyping.specs.Checks.{leaf, one, ◌>>=◌}
use Rattle.nx_ctyping.specs.HasTypes.{HasType, of_type}
use Rattle.nx_ctyping.specs.Trees.{expr_of}
use Rattle.nx_ctyping.specs.Verdicts.{verdict}
use Rattle.nx_ctyping.proofs.Binds.{one_on}
use Rattle.nx_ctyping.proofs.Sound as expression
use Rattle.nx_cbody.specs.Trees.{stmts_of}
use Rattle.nx_cbody.specs.Statements.{stmts_verdict}
use Rattle.nx_cbody.specs.Declarations.{Declared, opening, is_length, is_long, is_taken, has_six, constant_of, with_param, with_scalar, with_array, with_initial, next_cell, valued, value_given, param_given, param_verdict, params_verdict, scalar_given, array_given, item_kind, item_verdict, items_verdict, decls_verdict}
use Rattle.nx_cbody.specs.Functions.{checked_function, is_large, within_frame, function_verdict}
use Rattle.nx_cbody.proofs.Steps as steps
use Rattle.nx_cbody.proofs.Steps.{IsParam, AreParams, IsItem, AreItems, AreDecls, IsFunction}
use Rattle.nx_cbody.proofs.Sound as statement
use Rattle.nx_cbody.proofs.Unless.{clear, neither, negated, bind_on}

param_on : {f g : Declared} {p : Param} → IsParam f p g → param_verdict f p ≡ Ok g
param_on (steps.Parameter f p h e t l n) = ap (param_given f p) e ∙ clear (is_taken f p.name) false (is_long p.name || has_six f) p.line (Ok (with_param f p.name h)) t refl (neither _ _ l n)

pub params_on : {f g : Declared} {ps : List Param} → AreParams f ps g → params_verdict f ps ≡ Ok g
params_on (steps.NoParams f) = refl
params_on (steps.MoreParams f g k p ps h hs) = bind_on (param_verdict f p) (λ g. params_verdict g ps) g (Ok k) (param_on h) (params_on hs)

scalar_on : (f : Declared) (i : Item) (h : Held) → is_taken f i.name ≡ false → is_long i.name ≡ false → scalar_given f i (Some h) ≡ Ok (with_scalar f i.name h)
scalar_on f i h t l = clear (is_taken f i.name) false (is_long i.name) i.line (Ok (with_scalar f i.name h)) t refl l

array_on : (f : Declared) (i : Item) (w : Element) (n : ℕ) → is_length n ≡ true → is_taken f i.name ≡ false → is_long i.name ≡ false → array_given f i (Some w) n ≡ Ok (with_array f i.name (record { element = w; count = n }))
array_on f i w n g t l = clear (is_taken f i.name) (not (is_length n)) (is_long i.name) i.line (Ok (with_array f i.name (record { element = w; count = n }))) t (negated _ g) l

module _ (rows : List CallRow) where
  valued_on : (f : Declared) (line : ℕ) (x : Cell) (h : Held) (e : Expr) (s t : Used) (y : Typed) → HasType f.names rows (expr_of e) s y t → takes (type_of h) y.gives ≡ true →
      valued rows line x h e f s ≡ Ok (with_initial f (expr.Assign h.scalar x y.tree), t)
  valued_on f line x h e s t y g k =
      one_on (λ y. Ok (with_initial f y.tree)) line (one (assign_rule assign.Set (target.Cell x h)) line (verdict f.names rows (expr_of e))) s t
      (of_type (type_of h) (expr.Assign h.scalar x y.tree)) (with_initial f (expr.Assign h.scalar x y.tree))
      (one_on (assign_rule assign.Set (target.Cell x h)) line (verdict f.names rows (expr_of e)) s t y _ (expression.sound f.names rows g)
      (ap (λ q. if q then typed (type_of h) (expr.Assign h.scalar x y.tree) else wrong) k))
      refl

  item_on : {b : Base} {f g : Declared} {i : Item} {s t : Used} → IsItem rows b f i s g t → item_verdict rows b f i s ≡ Ok (g, t)
  item_on {b = b} (steps.ScalarItem f i h s k e t l) = ap (λ x. item_kind rows b f i x s) k ∙ (ap (λ o. leaf (scalar_given f i o) s) e ∙ ap (λ r. leaf r s) (scalar_on f i h t l))
  item_on {b = b} (steps.ArrayItem f i c w s k e g t l) =
      ap (λ x. item_kind rows b f i x s) k ∙ (ap (λ o. leaf (array_given f i o (constant_of c.kind)) s) e ∙ ap (λ r. leaf r s) (array_on f i w (constant_of c.kind) g t l))
  item_on {b = b} (steps.ValuedItem f i a h s u y k e t l d o) =
      ap (λ x. item_kind rows b f i x s) k
      ∙ (ap (λ o. scalar_given f i o >>= (λ g. value_given rows i.line (next_cell f) o a g s)) e
      ∙ bind_on (scalar_given f i (Some h)) (λ g. value_given rows i.line (next_cell f) (Some h) a g s) (with_scalar f i.name h) _ (scalar_on f i h t l) (valued_on (with_scalar f i.name h) i.line (next_cell f) h a s u y d o))

  items_on : {b : Base} {f g : Declared} {is : List Item} {s t : Used} → AreItems rows b f is s g t → items_verdict rows b f is s ≡ Ok (g, t)
  items_on (steps.NoItems f s) = refl
  items_on {b = b} (steps.MoreItems f g k i is s t u h hs) = bind_on (item_verdict rows b f i s) (λ r. items_verdict rows b r.0 is r.1) (g, t) (Ok (k, u)) (item_on h) (items_on hs)

  decls_on : {f g : Declared} {ds : List Decl} {s t : Used} → AreDecls rows f ds s g t → decls_verdict rows f ds s ≡ Ok (g, t)
  decls_on (steps.NoDecls f s) = refl
  decls_on (steps.MoreDecls f g k d ds s t u h hs) = bind_on (items_verdict rows d.base f d.items s) (λ r. decls_verdict rows r.0 ds r.1) (g, t) (Ok (k, u)) (items_on h) (decls_on hs)

  pub steps_on : (line : ℕ) {names : Names} {returns : Bool} {ps : List Param} {f : Function} {s t : Used} {g : CheckedFunction} → IsFunction rows names returns ps f s g t → function_verdict rows names line returns ps f s ≡ Ok (g, t)
  steps_on line {names = names} {returns = returns} {ps = ps} {f = f} (steps.Definition p d body s t u h k b l) =
      bind_on (params_verdict (opening names) ps) (λ p. decls_verdict rows p f.decls s >>= (λ d. stmts_verdict d.0.names rows returns (stmts_of f.body) d.1 >>= (λ b. within_frame line (checked_function d.0 b.0) >>= (λ g. Ok (g, b.1))))) p _ (params_on h)
      (bind_on (decls_verdict rows p f.decls s) (λ d. stmts_verdict d.0.names rows returns (stmts_of f.body) d.1 >>= (λ b. within_frame line (checked_function d.0 b.0) >>= (λ g. Ok (g, b.1)))) (d, t) _ (decls_on k)
      (bind_on (stmts_verdict d.names rows returns (stmts_of f.body) t) (λ b. within_frame line (checked_function d b.0) >>= (λ g. Ok (g, b.1))) (body, u) _ (statement.all_sound d.names rows returns b)
      (bind_on (within_frame line (checked_function d body)) (λ g. Ok (g, u)) (checked_function d body) _ (clear false false (is_large (checked_function d body)) line (Ok (checked_function d body)) refl refl l) refl)))
