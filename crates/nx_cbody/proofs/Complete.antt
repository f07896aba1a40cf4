-- An accepted statement is well typed.
use Rattle.std.proofs.Common.{◌≡◌, ℕ, Bool, true, false, List, [], None, Some, refl, subst}
use Rattle.std.specs.Prelude.{Option}
use Rattle.nx_calls.specs.declared.row.CallRow.{CallRow}
use Rattle.nx_checked.specs.declared.checked.CheckedExpr.{CheckedExpr}
use Rattle.nx_checked.specs.declared.checked.CheckedStmt.{CheckedStmt}
use Rattle.nx_checked.specs.declared.checked.CheckedStmt.TheVariants as stmt
use Rattle.nx_crules.specs.declared.types.CType.{CType}
use Rattle.nx_crules.specs.declared.types.CType.TheVariants as type
use Rattle.nx_ctype.specs.declared.names.Names.{Names}
use Rattle.nx_ctype.specs.declared.used.Used.{Used}
use Rattle.nx_ctyping.specs.Trees.{Expr}
use Rattle.nx_ctyping.specs.Verdicts.{verdict}
use Rattle.nx_ctyping.specs.HasTypes.{HasType, int, of_type}
use Rattle.nx_ctyping.proofs.Binds.{found, given, carry, carry_given, one_back, two_back, three_back, before_back, not_given}
use Rattle.nx_ctyping.proofs.Complete as expression
use Rattle.nx_cbody.specs.Trees as tree
use Rattle.nx_cbody.specs.Trees.{Stmt, Stmts}
use Rattle.nx_cbody.specs.Statements.{number_rule, number_typed, value_rule, value_typed, nothing_rule, present, maybe, returned, condition, head, stmt_verdict, stmts_verdict}
use Rattle.nx_cbody.specs.TypedStatements
use Rattle.nx_cbody.specs.TypedStatements.{MayHaveNumber, MayHaveValue, Returns, IsTyped, AreTyped}

module _ (names : Names) (rows : List CallRow) where
  number_by : (c : Expr) (s t : Used) (g : CType) (p n : CheckedExpr) → number_typed g p ≡ given n → HasType names rows c s (of_type g p) t → HasType names rows c s (int n) t
  number_by c s t type.Int p n e h = carry_given (λ n. HasType names rows c s (int n) t) p n e h
  number_by c s t _ p n e h = absurd cc

  condition_back : (line : ℕ) (c : Expr) (s t : Used) (n : CheckedExpr) → condition names rows line c s ≡ found n t → HasType names rows c s (int n) t
  condition_back line c s t n h = let p = one_back number_rule line (verdict names rows c) s t n h in number_by c s t p.0.gives p.0.tree n p.2 (expression.complete names rows c s t p.0 p.1)

  maybe_number_by : (e : Expr) (s t : Used) (g : CType) (p : CheckedExpr) (n : Option CheckedExpr) → present (number_typed g p) ≡ given n → HasType names rows e s (of_type g p) t → MayHaveNumber names rows (Some e) s n t
  maybe_number_by e s t type.Int p n k h = carry_given (λ n. MayHaveNumber names rows (Some e) s n t) _ n k (TypedStatements.Number e s t p h)
  maybe_number_by e s t _ p n k h = absurd cc

  number_back : (line : ℕ) (e : Option Expr) (s t : Used) (n : Option CheckedExpr) → maybe names rows number_rule line e s ≡ found n t → MayHaveNumber names rows e s n t
  number_back line None s t n h = carry (λ n t. MayHaveNumber names rows None s n t) _ n s t h (TypedStatements.NoNumber s)
  number_back line (Some e) s t n h =
      let p = one_back (λ x. present (number_rule x)) line (verdict names rows e) s t n h in maybe_number_by e s t p.0.gives p.0.tree n p.2 (expression.complete names rows e s t p.0 p.1)

  maybe_value_by : (e : Expr) (s t : Used) (g : CType) (p : CheckedExpr) (n : Option CheckedExpr) → present (value_typed g p) ≡ given n → HasType names rows e s (of_type g p) t → MayHaveValue names rows (Some e) s n t
  maybe_value_by e s t type.Void p n k h = absurd cc
  maybe_value_by e s t type.Int p n k h = carry_given (λ n. MayHaveValue names rows (Some e) s n t) _ n k (TypedStatements.Value e s t (of_type type.Int p) h refl)
  maybe_value_by e s t type.Entry p n k h = carry_given (λ n. MayHaveValue names rows (Some e) s n t) _ n k (TypedStatements.Value e s t (of_type type.Entry p) h refl)
  maybe_value_by e s t (type.Pointer w c) p n k h = carry_given (λ n. MayHaveValue names rows (Some e) s n t) _ n k (TypedStatements.Value e s t (of_type (type.Pointer w c) p) h refl)

  value_back : (line : ℕ) (e : Option Expr) (s t : Used) (n : Option CheckedExpr) → maybe names rows value_rule line e s ≡ found n t → MayHaveValue names rows e s n t
  value_back line None s t n h = carry (λ n t. MayHaveValue names rows None s n t) _ n s t h (TypedStatements.NoValue s)
  value_back line (Some e) s t n h =
      let p = one_back (λ x. present (value_rule x)) line (verdict names rows e) s t n h in maybe_value_by e s t p.0.gives p.0.tree n p.2 (expression.complete names rows e s t p.0 p.1)

  returned_by : (e : Expr) (s t : Used) (g : CType) (p : CheckedExpr) (n : Option CheckedExpr) → present (number_typed g p) ≡ given n → HasType names rows e s (of_type g p) t → Returns names rows true (Some e) s n t
  returned_by e s t type.Int p n k h = carry_given (λ n. Returns names rows true (Some e) s n t) _ n k (TypedStatements.Returned e s t p h)
  returned_by e s t _ p n k h = absurd cc

  returned_back : (line : ℕ) (r : Bool) (e : Option Expr) (s t : Used) (n : Option CheckedExpr) → returned names rows r line e s ≡ found n t → Returns names rows r e s n t
  returned_back line true None s t n h = absurd cc
  returned_back line true (Some e) s t n h =
      let p = one_back (λ x. present (number_rule x)) line (verdict names rows e) s t n h in returned_by e s t p.0.gives p.0.tree n p.2 (expression.complete names rows e s t p.0 p.1)
  returned_back line false None s t n h = carry (λ n t. Returns names rows false None s n t) _ n s t h (TypedStatements.Nothing s)
  returned_back line false (Some e) s t n h = let p = one_back (λ x. present (nothing_rule x)) line (verdict names rows e) s t n h in absurd (not_given _ n p.2)

  module _ (returns : Bool) where
    mutual
      pub complete : (a : Stmt) (s t : Used) (x : CheckedStmt) → stmt_verdict names rows returns a s ≡ found x t → IsTyped names rows returns a s x t
      complete (tree.Empty line) s t x h = carry (λ x t. IsTyped names rows returns (tree.Empty line) s x t) _ x s t h (TypedStatements.Empty line s)
      complete (tree.Run line e) s t x h =
          let p = one_back (λ x. given (stmt.Expr x.tree)) line (verdict names rows e) s t x h in
          carry_given (λ x. IsTyped names rows returns (tree.Run line e) s x t) _ x p.2 (TypedStatements.Run line e s t p.0 (expression.complete names rows e s t p.0 p.1))
      complete (tree.Block line ss) s t x h =
          let p = one_back (λ xs. given (stmt.Block xs)) line (stmts_verdict names rows returns ss) s t x h in
          carry_given (λ x. IsTyped names rows returns (tree.Block line ss) s x t) _ x p.2 (TypedStatements.Block line ss s t p.0 (all_complete ss s t p.0 p.1))
      complete (tree.If line c a) s t x h =
          let p = two_back (λ c a. given (stmt.If c a)) line (condition names rows line c) (stmt_verdict names rows returns a) s t x h in
          carry_given (λ x. IsTyped names rows returns (tree.If line c a) s x t) _ x p.5 (TypedStatements.If line c a s p.1 t p.0 p.2 (condition_back line c s p.1 p.0 p.3) (complete a p.1 t p.2 p.4))
      complete (tree.IfElse line c a b) s t x h =
          let p = three_back (λ c a b. given (stmt.IfElse c a b)) line (condition names rows line c) (stmt_verdict names rows returns a) (stmt_verdict names rows returns b) s t x h in
          carry_given (λ x. IsTyped names rows returns (tree.IfElse line c a b) s x t) _ x p.8
          (TypedStatements.IfElse line c a b s p.1 p.3 t p.0 p.2 p.4 (condition_back line c s p.1 p.0 p.5) (complete a p.1 p.3 p.2 p.6) (complete b p.3 t p.4 p.7))
      complete (tree.While line c a) s t x h =
          let p = two_back (λ c a. given (stmt.While c a)) line (condition names rows line c) (stmt_verdict names rows returns a) s t x h in
          carry_given (λ x. IsTyped names rows returns (tree.While line c a) s x t) _ x p.5 (TypedStatements.While line c a s p.1 t p.0 p.2 (condition_back line c s p.1 p.0 p.3) (complete a p.1 t p.2 p.4))
      complete (tree.Do line a c) s t x h =
          let p = two_back (λ a c. given (stmt.Do a c)) line (stmt_verdict names rows returns a) (condition names rows line c) s t x h in
          carry_given (λ x. IsTyped names rows returns (tree.Do line a c) s x t) _ x p.5 (TypedStatements.Do line a c s p.1 t p.0 p.2 (complete a s p.1 p.0 p.3) (condition_back line c p.1 t p.2 p.4))
      complete (tree.For line i c e a) s t x h =
          let p = two_back (λ h a. given (stmt.For h.0 h.1 h.2 a)) line (head names rows line i c e) (stmt_verdict names rows returns a) s t x h in
          let q = three_back (λ i c t. given (i, c, t)) line (maybe names rows value_rule line i) (maybe names rows number_rule line c) (maybe names rows value_rule line e) s p.1 p.0 p.3 in
          let k = carry_given (λ h. IsTyped names rows returns (tree.For line i c e a) s (stmt.For h.0 h.1 h.2 p.2) t) (q.0, q.2, q.4) p.0 q.8
          (TypedStatements.For line i c e a s q.1 q.3 p.1 t q.0 q.2 q.4 p.2 (value_back line i s q.1 q.0 q.5) (number_back line c q.1 q.3 q.2 q.6) (value_back line e q.3 p.1 q.4 q.7) (complete a p.1 t p.2 p.4)) in
          carry_given (λ x. IsTyped names rows returns (tree.For line i c e a) s x t) _ x p.5 k
      complete (tree.Break line) s t x h = carry (λ x t. IsTyped names rows returns (tree.Break line) s x t) _ x s t h (TypedStatements.Break line s)
      complete (tree.Continue line) s t x h = carry (λ x t. IsTyped names rows returns (tree.Continue line) s x t) _ x s t h (TypedStatements.Continue line s)
      complete (tree.Return line e) s t x h =
          let p = one_back (λ e. given (stmt.Return e)) line (returned names rows returns line e) s t x h in
          carry_given (λ x. IsTyped names rows returns (tree.Return line e) s x t) _ x p.2 (TypedStatements.Return line e s t p.0 (returned_back line returns e s t p.0 p.1))

      pub all_complete : (ss : Stmts) (s t : Used) (zs : List CheckedStmt) → stmts_verdict names rows returns ss s ≡ found zs t → AreTyped names rows returns ss s zs t
      all_complete tree.Done s t zs h = carry (λ xs t. AreTyped names rows returns tree.Done s xs t) [] zs s t h (TypedStatements.Done s)
      all_complete (tree.Then a ss) s t zs h =
          let p = before_back (stmt_verdict names rows returns a) (stmts_verdict names rows returns ss) s t zs h in
          subst (λ zs. AreTyped names rows returns (tree.Then a ss) s zs t) p.5 (TypedStatements.Then a ss s p.1 t p.0 p.2 (complete a s p.1 p.0 p.3) (all_complete ss p.1 t p.2 p.4))
