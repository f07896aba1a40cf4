-- Accepted declarations and functions are well typed.
use Rattle.std.proofs.Common.{◌≡◌, ℕ, Bool, true, false, List, [], ◌∷◌, None, Some, refl, sym, ap, ◌∙◌, subst}
use Rattle.std.specs.Prelude.{◌||◌, not, Option, Result, Ok, Err, if◌then◌else◌}
use Rattle.nx_calls.specs.declared.row.CallRow.{CallRow}
use Rattle.nx_ctok.specs.declared.fault.CFault.{CFault}
use Rattle.nx_ctree.specs.declared.expression.AssignOperator.TheVariants as assign
use Rattle.nx_ctree.specs.declared.expression.Expr.{Expr}
use Rattle.nx_ctree.specs.declared.program.Base.{Base}
use Rattle.nx_ctree.specs.declared.program.Constant.{Constant}
use Rattle.nx_ctree.specs.declared.program.Param.{Param}
use Rattle.nx_ctree.specs.declared.program.Function.{Function}
use Rattle.nx_ctree.specs.declared.statement.Decl.{Decl}
use Rattle.nx_ctree.specs.declared.statement.Item.{Item}
use Rattle.nx_ctree.specs.declared.statement.ItemKind.{ItemKind}
use Rattle.nx_ctree.specs.declared.statement.ItemKind.TheVariants as item
use Rattle.nx_checked.specs.declared.checked.Cell.{Cell}
use Rattle.nx_checked.specs.declared.checked.Element.{Element}
use Rattle.nx_checked.specs.declared.checked.CheckedExpr.TheVariants as expr
use Rattle.nx_checked.specs.declared.checked.CheckedFunction.{CheckedFunction}
use Rattle.nx_crules.specs.declared.types.Held.{Held}
use Rattle.nx_crules.specs.declared.types.Typed.{Typed}
use Rattle.nx_crules.specs.declared.types.Target.TheVariants as target
use Rattle.nx_crules.specs.Types.{type_of, takes}
use Rattle.nx_crules.specs.Rules.{wrong, typed, assign_rule}
use Rattle.nx_ctype.specs.declared.names.Names.{Names}
use Rattle.nx_ctype.specs.declared.used.Used.{Used}
use Rattle.nx_ctyping.specs.Checks.{leaf, one, ◌>>=◌}
use Rattle.nx_ctyping.specs.HasTypes.{HasType, of_type}
use Rattle.nx_ctyping.specs.Trees.{expr_of}
use Rattle.nx_ctyping.specs.Verdicts.{verdict}
use Rattle.nx_ctyping.proofs.Binds.{found, given, kept, carry, carry_given, bind_back, one_back, not_given}
use Rattle.nx_ctyping.proofs.Complete as expression
use Rattle.nx_cbody.specs.Trees.{stmts_of}
use Rattle.nx_cbody.specs.Statements.{stmts_verdict}
use Rattle.nx_cbody.specs.Declarations.{Declared, opening, held_of, element_of, is_length, is_long, is_taken, has_six, constant_of, with_param, with_scalar, with_array, with_initial, next_cell, valued, value_given, param_given, param_verdict, params_verdict, scalar_given, array_given, item_kind, item_verdict, items_verdict, decls_verdict}
use Rattle.nx_cbody.specs.Functions.{checked_function, is_large, within_frame, function_verdict}
use Rattle.nx_cbody.proofs.Steps as steps
use Rattle.nx_cbody.proofs.Steps.{IsParam, AreParams, IsItem, AreItems, AreDecls, IsFunction}
use Rattle.nx_cbody.proofs.Complete as statement
use Rattle.nx_cbody.proofs.Unless.{cleared, no_mismatch, each_false, was_true, carry_kept}

param_by : (f g : Declared) (p : Param) (o : Option Held) → held_of p.base p.pointer ≡ o → param_given f p o ≡ kept g → IsParam f p g
param_by f g p None e h = let q = cleared (is_taken f p.name) true false p.line (kept f) g h in absurd (no_mismatch q.1)
param_by f g p (Some d) e h =
    let q = cleared (is_taken f p.name) false (is_long p.name || has_six f) p.line (kept (with_param f p.name d)) g h in
    let l = each_false (is_long p.name) (has_six f) q.2 in
    carry_kept (λ g. IsParam f p g) _ g q.3 (steps.Parameter f p d e q.0 l.0 l.1)

pub params_back : (f g : Declared) (ps : List Param) → params_verdict f ps ≡ kept g → AreParams f ps g
params_back f g [] h = carry_kept (λ g. AreParams f [] g) _ g h (steps.NoParams f)
params_back f g (p ∷ ps) h =
    let q = bind_back (param_verdict f p) (λ k. params_verdict k ps) g h in
    steps.MoreParams f q.0 g p ps (param_by f q.0 p (held_of p.base p.pointer) refl q.1) (params_back q.0 g ps q.2)

leaf_back : {A : Type 0} (r : Result A CFault) (s t : Used) (x : A) → leaf r s ≡ found x t → (r ≡ kept x) × (s ≡ t)
leaf_back (Ok y) s t x h = (carry (λ x t. kept y ≡ kept x) y x s t h refl, carry (λ x t. s ≡ t) y x s t h refl)
leaf_back (Err e) s t x h = absurd cc

module _ (rows : List CallRow) (b : Base) where
  scalar_by : (f g : Declared) (i : Item) (o : Option Held) (s : Used) → i.kind ≡ item.Plain → held_of b i.pointer ≡ o → scalar_given f i o ≡ kept g → IsItem rows b f i s g s
  scalar_by f g i None s k e h = let q = cleared (is_taken f i.name) true false i.line (kept f) g h in absurd (no_mismatch q.1)
  scalar_by f g i (Some d) s k e h =
      let q = cleared (is_taken f i.name) false (is_long i.name) i.line (kept (with_scalar f i.name d)) g h in
      carry_kept (λ g. IsItem rows b f i s g s) _ g q.3 (steps.ScalarItem f i d s k e q.0 q.2)

  array_by : (f g : Declared) (i : Item) (c : Constant) (o : Option Element) (s : Used) → i.kind ≡ item.Array c → element_of b i.pointer ≡ o → array_given f i o (constant_of c.kind) ≡ kept g → IsItem rows b f i s g s
  array_by f g i c None s k e h = let q = cleared (is_taken f i.name) true false i.line (kept f) g h in absurd (no_mismatch q.1)
  array_by f g i c (Some w) s k e h =
      let q = cleared (is_taken f i.name) (not (is_length (constant_of c.kind))) (is_long i.name) i.line (kept (with_array f i.name (record { element = w; count = constant_of c.kind }))) g h in
      carry_kept (λ g. IsItem rows b f i s g s) _ g q.3 (steps.ArrayItem f i c w s k e (was_true _ q.1) q.0 q.2)

  -- An accepted value.
  set_by : (x : Cell) (h : Held) (y z : Typed) (q : Bool) → takes (type_of h) y.gives ≡ q → (if q then typed (type_of h) (expr.Assign h.scalar x y.tree) else wrong) ≡ given z →
      (takes (type_of h) y.gives ≡ true) × (of_type (type_of h) (expr.Assign h.scalar x y.tree) ≡ z)
  set_by x h y z true e g = (e, carry_given (λ z. of_type (type_of h) (expr.Assign h.scalar x y.tree) ≡ z) _ z g refl)
  set_by x h y z false e g = absurd (not_given _ z g)

  valued_back : (line : ℕ) (x : Cell) (h : Held) (a : Expr) (k g : Declared) (s t : Used) → valued rows line x h a k s ≡ found g t →
      (y : Typed) × HasType k.names rows (expr_of a) s y t × (takes (type_of h) y.gives ≡ true) × (with_initial k (expr.Assign h.scalar x y.tree) ≡ g)
  valued_back line x h a k g s t d =
      let p = one_back (λ y. given (with_initial k y.tree)) line (one (assign_rule assign.Set (target.Cell x h)) line (verdict k.names rows (expr_of a))) s t g d in
      let q = one_back (assign_rule assign.Set (target.Cell x h)) line (verdict k.names rows (expr_of a)) s t p.0 p.1 in
      let z = set_by x h q.0 p.0 (takes (type_of h) q.0.gives) refl q.2 in
      (q.0, expression.complete k.names rows (expr_of a) s t q.0 q.1, z.0, carry_given (λ g. with_initial k (expr.Assign h.scalar x q.0.tree) ≡ g) _ g (ap (λ z. given (with_initial k z.tree)) z.1 ∙ p.2) refl)

  value_by : (f g : Declared) (i : Item) (a : Expr) (o : Option Held) (s t : Used) → i.kind ≡ item.Valued a → held_of b i.pointer ≡ o →
      (scalar_given f i o >>= (λ k. value_given rows i.line (next_cell f) o a k s)) ≡ found g t → IsItem rows b f i s g t
  value_by f g i a None s t k e h =
      let p = bind_back (scalar_given f i None) (λ k. value_given rows i.line (next_cell f) None a k s) (g, t) h in
      let q = cleared (is_taken f i.name) true false i.line (kept f) p.0 p.1 in absurd (no_mismatch q.1)
  value_by f g i a (Some d) s t k e h =
      let p = bind_back (scalar_given f i (Some d)) (λ k. value_given rows i.line (next_cell f) (Some d) a k s) (g, t) h in
      let q = cleared (is_taken f i.name) false (is_long i.name) i.line (kept (with_scalar f i.name d)) p.0 p.1 in
      let same : p.0 ≡ with_scalar f i.name d = sym (carry_kept (λ k. with_scalar f i.name d ≡ k) _ p.0 q.3 refl) in
      let v = valued_back i.line (next_cell f) d a (with_scalar f i.name d) g s t (subst (λ k. valued rows i.line (next_cell f) d a k s ≡ found g t) same p.2) in
      subst (λ g. IsItem rows b f i s g t) v.3 (steps.ValuedItem f i a d s t v.0 k e q.0 q.2 v.1 v.2)

  item_by : (f g : Declared) (i : Item) (x : ItemKind) (s t : Used) → i.kind ≡ x → item_kind rows b f i x s ≡ found g t → IsItem rows b f i s g t
  item_by f g i item.Plain s t k h = let p = leaf_back (scalar_given f i (held_of b i.pointer)) s t g h in subst (λ t. IsItem rows b f i s g t) p.1 (scalar_by f g i (held_of b i.pointer) s k refl p.0)
  item_by f g i (item.Array c) s t k h =
      let p = leaf_back (array_given f i (element_of b i.pointer) (constant_of c.kind)) s t g h in subst (λ t. IsItem rows b f i s g t) p.1 (array_by f g i c (element_of b i.pointer) s k refl p.0)
  item_by f g i (item.Valued a) s t k h = value_by f g i a (held_of b i.pointer) s t k refl h

  items_back : (f g : Declared) (is : List Item) (s t : Used) → items_verdict rows b f is s ≡ found g t → AreItems rows b f is s g t
  items_back f g [] s t h = carry (λ g t. AreItems rows b f [] s g t) f g s t h (steps.NoItems f s)
  items_back f g (i ∷ is) s t h =
      let q = bind_back (item_verdict rows b f i s) (λ r. items_verdict rows b r.0 is r.1) (g, t) h in
      steps.MoreItems f q.0.0 g i is s q.0.1 t (item_by f q.0.0 i i.kind s q.0.1 refl q.1) (items_back q.0.0 g is q.0.1 t q.2)

module _ (rows : List CallRow) where
  decls_back : (f g : Declared) (ds : List Decl) (s t : Used) → decls_verdict rows f ds s ≡ found g t → AreDecls rows f ds s g t
  decls_back f g [] s t h = carry (λ g t. AreDecls rows f [] s g t) f g s t h (steps.NoDecls f s)
  decls_back f g (d ∷ ds) s t h =
      let q = bind_back (items_verdict rows d.base f d.items s) (λ r. decls_verdict rows r.0 ds r.1) (g, t) h in
      steps.MoreDecls f q.0.0 g d ds s q.0.1 t (items_back rows d.base f q.0.0 d.items s q.0.1 q.1) (decls_back q.0.0 g ds q.0.1 t q.2)

  pub steps_back : (line : ℕ) (names : Names) (returns : Bool) (ps : List Param) (f : Function) (s t : Used) (g : CheckedFunction) → function_verdict rows names line returns ps f s ≡ found g t → IsFunction rows names returns ps f s g t
  steps_back line names returns ps f s t g h =
      let p = bind_back (params_verdict (opening names) ps) (λ p. decls_verdict rows p f.decls s >>= (λ d. stmts_verdict d.0.names rows returns (stmts_of f.body) d.1 >>= (λ b. within_frame line (checked_function d.0 b.0) >>= (λ g. found g b.1)))) (g, t) h in
      let d = bind_back (decls_verdict rows p.0 f.decls s) (λ d. stmts_verdict d.0.names rows returns (stmts_of f.body) d.1 >>= (λ b. within_frame line (checked_function d.0 b.0) >>= (λ g. found g b.1))) (g, t) p.2 in
      let b = bind_back (stmts_verdict d.0.0.names rows returns (stmts_of f.body) d.0.1) (λ b. within_frame line (checked_function d.0.0 b.0) >>= (λ g. found g b.1)) (g, t) d.2 in
      let w = bind_back (within_frame line (checked_function d.0.0 b.0.0)) (λ g. found g b.0.1) (g, t) b.2 in
      let q = cleared false false (is_large (checked_function d.0.0 b.0.0)) line (kept (checked_function d.0.0 b.0.0)) w.0 w.1 in
      carry (λ g t. IsFunction rows names returns ps f s g t) w.0 g b.0.1 t w.2
      (carry_kept (λ g. IsFunction rows names returns ps f s g b.0.1) _ w.0 q.3
      (steps.Definition p.0 d.0.0 b.0.0 s d.0.1 b.0.1 (params_back (opening names) p.0 ps p.1) (decls_back p.0 d.0.0 f.decls s d.0.1 d.1)
      (statement.all_complete d.0.0.names rows returns (stmts_of f.body) d.0.1 b.0.1 b.0.0 b.1) q.2))
