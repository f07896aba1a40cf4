-- A local's value, by its two steps: what it is, and its assignment.
use Rattle.std.proofs.Common.{◌≡◌, ℕ, List, [], ◌∷◌, ◌++◌, None, Some, refl, sym, ap, ◌∙◌, subst}
use Rattle.std.specs.Prelude.{Option, Result, Ok}
use Rattle.nx_calls.specs.declared.row.CallRow.{CallRow}
use Rattle.nx_ctok.specs.declared.fault.CFault.{CFault}
use Rattle.nx_ctok.specs.declared.fault.CKind.{CKind}
use Rattle.nx_ctree.specs.declared.expression.AssignOperator.TheVariants as assign
use Rattle.nx_ctree.specs.declared.expression.Expr.{Expr}
use Rattle.nx_checked.specs.declared.checked.Cell.{Cell}
use Rattle.nx_crules.specs.declared.types.Held.{Held}
use Rattle.nx_crules.specs.declared.types.Target.TheVariants as target
use Rattle.nx_crules.specs.declared.types.Typed.{Typed}
use Rattle.nx_crules.specs.Answers.{at, Fails}
use Rattle.nx_crules.specs.Rules.{assign_rule}
use Rattle.nx_ctype.specs.declared.used.Used.{Used}
use Rattle.nx_ctyping.specs.Checks.{◌>>=◌, Check, one}
use Rattle.nx_cleaves.proofs.Given.{fails_bind, one_fails}
use Rattle.nx_cexprcheck.specs.Code.{expression_check}
use Rattle.nx_ctree.specs.declared.statement.Item.{Item}
use Rattle.nx_checked.specs.declared.checked.CheckedExpr.{CheckedExpr}
use Rattle.nx_ctyping.proofs.Binds.{kept}
use Rattle.nx_cbody.specs.Declarations.{Declared, next_cell, scalar_given, value_given, with_initial, valued}
use Rattle.nx_cdeclcheck.specs.Done.{IsDoneUsing, valued_given}

abbrev no_held : Option Held
no_held = None

abbrev some_held : Held → Option Held
some_held h = Some h

module _ {A B : Type 0} (g : A → B) (rule : Typed → Result A CKind) (line : ℕ) (a : Check Typed) (s : Used) where
  first_fails : (e : CFault) → Fails e (a s) → Fails e (one (λ z. Ok (g z)) line (one rule line a) s)
  first_fails e h = one_fails e (λ z. Ok (g z)) line (one rule line a) s (one_fails e rule line a s h)

  then_fails : (e : CFault) (t : Used) (y : Typed) → a s ≡ Ok (y, t) → Fails e (at line (rule y)) → Fails e (one (λ z. Ok (g z)) line (one rule line a) s)
  then_fails e t y h k = one_fails e (λ z. Ok (g z)) line (one rule line a) s (rw h (fails_bind e (at line (rule y)) (λ z. Ok (z, t)) k))

  both_done : (t : Used) (y : Typed) (z : A) → a s ≡ Ok (y, t) → at line (rule y) ≡ Ok z → one (λ z. Ok (g z)) line (one rule line a) s ≡ Ok (g z, t)
  both_done t y z h k = rw h (rw k refl)

module _ (rows : List CallRow) (line : ℕ) (x : Cell) (h : Held) (v : Expr) (f : Declared) (s : Used) where
  abbrev set : Typed → Result Typed CKind
  set y = assign_rule assign.Set (target.Cell x h) y

  abbrev put : Typed → Declared
  put y = with_initial f y.tree

  pub value_fails : (e : CFault) → Fails e (expression_check f.names rows v s) → Fails e (valued rows line x h v f s)
  unfolding expression_check
  value_fails e k = first_fails put set line (expression_check f.names rows v) s e k

  pub assignment_fails : (e : CFault) (t : Used) (y : Typed) → expression_check f.names rows v s ≡ Ok (y, t) → Fails e (at line (set y)) → Fails e (valued rows line x h v f s)
  unfolding expression_check
  assignment_fails e t y k m = then_fails put set line (expression_check f.names rows v) s e t y k m

  pub value_done : (t : Used) (y z : Typed) → expression_check f.names rows v s ≡ Ok (y, t) → at line (set y) ≡ Ok z → valued rows line x h v f s ≡ Ok (put z, t)
  unfolding expression_check
  value_done t y z k m = both_done put set line (expression_check f.names rows v) s t y z k m

  -- The assignment is put behind those before it.
  pub value_put : (t : Used) (y z : Typed) (es : List CheckedExpr) → expression_check f.names rows v s ≡ Ok (y, t) → at line (set y) ≡ Ok z → es ≡ f.locals.initials ++ z.tree ∷ [] →
      valued rows line x h v f s ≡ Ok (record f { locals = record f.locals { initials = es } }, t)
  value_put t y z es k m e = value_done t y z k m ∙ ap (λ (es : List CheckedExpr). Ok (record f { locals = record f.locals { initials = es } }, t)) (sym e)

-- A local with its value: its declaration, and then the value.
module _ (rows : List CallRow) (i : Item) (v : Expr) (f : Declared) (s : Used) where
  pub declaration_fails : (e : CFault) (o : Option Held) → Fails e (scalar_given f i o) → Fails e (valued_given rows i o v f s)
  declaration_fails e o h = fails_bind e (scalar_given f i o) (λ g. value_given rows i.line (next_cell f) o v g s) h

  pub without_value : (o : Option Held) (g : Declared) → o ≡ no_held → scalar_given f i o ≡ kept g → IsDoneUsing (kept tt) g s (valued_given rows i o v f s)
  without_value o g n h =
      ap (λ (r : Result Declared CFault). r >>= (λ g. value_given rows i.line (next_cell f) o v g s)) h
      ∙ ap (λ (o : Option Held). value_given rows i.line (next_cell f) o v g s) n

  pub with_value : (o : Option Held) (h : Held) (x : Cell) (g d : Declared) (t : Used) (q : Result (Unit {0}) CFault) → o ≡ some_held h → x ≡ next_cell f → scalar_given f i o ≡ kept g → IsDoneUsing q d t (valued rows i.line x h v g s) → IsDoneUsing q d t (valued_given rows i o v f s)
  with_value o h x g d t q m c k w =
      subst (λ (r : Result (Declared × Used) CFault). IsDoneUsing q d t r)
      (sym (ap (λ (r : Result Declared CFault). r >>= (λ g. value_given rows i.line (next_cell f) o v g s)) k ∙ ap (λ (o : Option Held). value_given rows i.line (next_cell f) o v g s) m ∙ ap (λ (x : Cell). valued rows i.line x h v g s) (sym c))) w
