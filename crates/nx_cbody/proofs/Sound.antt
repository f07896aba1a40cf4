-- A well typed statement is accepted, with what it does.
use Rattle.std.proofs.Common.{◌≡◌, ℕ, Bool, true, List, Some, refl, ap}
use Rattle.std.specs.Prelude.{Option, Ok}
use Rattle.nx_calls.specs.declared.row.CallRow.{CallRow}
use Rattle.nx_checked.specs.declared.checked.CheckedExpr.{CheckedExpr}
use Rattle.nx_checked.specs.declared.checked.CheckedStmt.{CheckedStmt}
use Rattle.nx_checked.specs.declared.checked.CheckedStmt.TheVariants as stmt
use Rattle.nx_crules.specs.declared.types.CType.{CType}
use Rattle.nx_crules.specs.declared.types.CType.TheVariants as type
use Rattle.nx_ctype.specs.declared.names.Names.{Names}
use Rattle.nx_ctype.specs.declared.used.Used.{Used}
use Rattle.nx_ctyping.specs.Trees.{Expr}
use Rattle.nx_ctyping.specs.Verdicts.{verdict}
use Rattle.nx_ctyping.specs.HasTypes.{HasType, int, has_values}
use Rattle.nx_ctyping.proofs.Binds.{one_on, two_on, three_on, before_on}
use Rattle.nx_ctyping.proofs.Sound as expression
use Rattle.nx_cbody.specs.Trees.{Stmt, Stmts}
use Rattle.nx_cbody.specs.Statements.{number_rule, value_rule, value_typed, present, maybe, returned, condition, head, stmt_verdict, stmts_verdict}
use Rattle.nx_cbody.specs.TypedStatements
use Rattle.nx_cbody.specs.TypedStatements.{MayHaveNumber, MayHaveValue, Returns, IsTyped, AreTyped}

valued_on : (g : CType) (t : CheckedExpr) → has_values g ≡ true → value_typed g t ≡ Ok t
valued_on type.Void t h = absurd cc
valued_on _ t h = refl

module _ (names : Names) (rows : List CallRow) where
  condition_on : (line : ℕ) (c : Expr) (s t : Used) (n : CheckedExpr) → HasType names rows c s (int n) t → condition names rows line c s ≡ Ok (n, t)
  condition_on line c s t n h = one_on number_rule line (verdict names rows c) s t (int n) n (expression.sound names rows h) refl

  number_on : (line : ℕ) {e : Option Expr} {s t : Used} {n : Option CheckedExpr} → MayHaveNumber names rows e s n t → maybe names rows number_rule line e s ≡ Ok (n, t)
  number_on line (TypedStatements.NoNumber s) = refl
  number_on line (TypedStatements.Number e s t n h) = one_on (λ x. present (number_rule x)) line (verdict names rows e) s t (int n) (Some n) (expression.sound names rows h) refl

  value_on : (line : ℕ) {e : Option Expr} {s t : Used} {n : Option CheckedExpr} → MayHaveValue names rows e s n t → maybe names rows value_rule line e s ≡ Ok (n, t)
  value_on line (TypedStatements.NoValue s) = refl
  value_on line (TypedStatements.Value e s t x h v) = one_on (λ x. present (value_rule x)) line (verdict names rows e) s t x (Some x.tree) (expression.sound names rows h) (ap present (valued_on x.gives x.tree v))

  returned_on : (line : ℕ) {r : Bool} {e : Option Expr} {s t : Used} {n : Option CheckedExpr} → Returns names rows r e s n t → returned names rows r line e s ≡ Ok (n, t)
  returned_on line (TypedStatements.Nothing s) = refl
  returned_on line (TypedStatements.Returned e s t n h) = one_on (λ x. present (number_rule x)) line (verdict names rows e) s t (int n) (Some n) (expression.sound names rows h) refl

  module _ (returns : Bool) where
    mutual
      pub sound : {a : Stmt} {s t : Used} {x : CheckedStmt} → IsTyped names rows returns a s x t → stmt_verdict names rows returns a s ≡ Ok (x, t)
      sound (TypedStatements.Empty line s) = refl
      sound (TypedStatements.Run line e s t x h) = one_on (λ x. Ok (stmt.Expr x.tree)) line (verdict names rows e) s t x (stmt.Expr x.tree) (expression.sound names rows h) refl
      sound (TypedStatements.Block line ss s t xs h) = one_on (λ xs. Ok (stmt.Block xs)) line (stmts_verdict names rows returns ss) s t xs (stmt.Block xs) (all_sound h) refl
      sound (TypedStatements.If line c a s t u n x h g) = two_on (λ c a. Ok (stmt.If c a)) line (condition names rows line c) (stmt_verdict names rows returns a) s t u n x (stmt.If n x) (condition_on line c s t n h) (sound g) refl
      sound (TypedStatements.IfElse line c a b s t u v n x y h g k) =
          three_on (λ c a b. Ok (stmt.IfElse c a b)) line (condition names rows line c) (stmt_verdict names rows returns a) (stmt_verdict names rows returns b) s t u v n x y (stmt.IfElse n x y) (condition_on line c s t n h) (sound g) (sound k) refl
      sound (TypedStatements.While line c a s t u n x h g) = two_on (λ c a. Ok (stmt.While c a)) line (condition names rows line c) (stmt_verdict names rows returns a) s t u n x (stmt.While n x) (condition_on line c s t n h) (sound g) refl
      sound (TypedStatements.Do line a c s t u x n g h) = two_on (λ a c. Ok (stmt.Do a c)) line (stmt_verdict names rows returns a) (condition names rows line c) s t u x n (stmt.Do x n) (sound g) (condition_on line c t u n h) refl
      sound (TypedStatements.For line i c e a s t u v w j n k x h g l m) =
          two_on (λ h a. Ok (stmt.For h.0 h.1 h.2 a)) line (head names rows line i c e) (stmt_verdict names rows returns a) s v w (j, n, k) x (stmt.For j n k x)
          (three_on (λ i c t. Ok (i, c, t)) line (maybe names rows value_rule line i) (maybe names rows number_rule line c) (maybe names rows value_rule line e) s t u v j n k (j, n, k) (value_on line h) (number_on line g) (value_on line l) refl)
          (sound m) refl
      sound (TypedStatements.Break line s) = refl
      sound (TypedStatements.Continue line s) = refl
      sound (TypedStatements.Return line e s t n h) = one_on (λ e. Ok (stmt.Return e)) line (returned names rows returns line e) s t n (stmt.Return n) (returned_on line h) refl

      pub all_sound : {ss : Stmts} {s t : Used} {xs : List CheckedStmt} → AreTyped names rows returns ss s xs t → stmts_verdict names rows returns ss s ≡ Ok (xs, t)
      all_sound (TypedStatements.Done s) = refl
      all_sound (TypedStatements.Then a ss s t u x xs h g) = before_on (stmt_verdict names rows returns a) (stmts_verdict names rows returns ss) s t u x xs (sound h) (all_sound g)
