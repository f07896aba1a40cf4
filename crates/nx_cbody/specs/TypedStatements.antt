-- When a statement is well typed, and what it does (C11 6.8). Each relation is over what was used before and what is used then.
use Rattle.std.specs.Prelude.{◌≡◌, ℕ, Bool, true, false, List, [], ◌∷◌, Option, None, Some}
use Rattle.nx_calls.specs.declared.row.CallRow.{CallRow}
use Rattle.nx_checked.specs.declared.checked.CheckedExpr.{CheckedExpr}
use Rattle.nx_checked.specs.declared.checked.CheckedStmt.{CheckedStmt}
use Rattle.nx_checked.specs.declared.checked.CheckedStmt.TheVariants as stmt
use Rattle.nx_crules.specs.declared.types.Typed.{Typed}
use Rattle.nx_ctype.specs.declared.names.Names.{Names}
use Rattle.nx_ctype.specs.declared.used.Used.{Used}
use Rattle.nx_ctyping.specs.Trees.{Expr}
use Rattle.nx_ctyping.specs.HasTypes.{HasType, int, has_values}
use Rattle.nx_cbody.specs.Trees as tree
use Rattle.nx_cbody.specs.Trees.{Stmt, Stmts}

-- An expression that may be absent, of a number, and of a value.
pub data MayHaveNumber (names : Names) (rows : List CallRow) : Option Expr → Used → Option CheckedExpr → Used → Type 0 where
  NoNumber : (s : Used) → MayHaveNumber names rows None s None s
  Number : (e : Expr) (s t : Used) (n : CheckedExpr) → HasType names rows e s (int n) t → MayHaveNumber names rows (Some e) s (Some n) t

pub data MayHaveValue (names : Names) (rows : List CallRow) : Option Expr → Used → Option CheckedExpr → Used → Type 0 where
  NoValue : (s : Used) → MayHaveValue names rows None s None s
  Value : (e : Expr) (s t : Used) (x : Typed) → HasType names rows e s x t → has_values x.gives ≡ true → MayHaveValue names rows (Some e) s (Some x.tree) t

-- A function that returns a number returns one, any other nothing (6.8.6.4).
pub data Returns (names : Names) (rows : List CallRow) : Bool → Option Expr → Used → Option CheckedExpr → Used → Type 0 where
  Nothing : (s : Used) → Returns names rows false None s None s
  Returned : (e : Expr) (s t : Used) (n : CheckedExpr) → HasType names rows e s (int n) t → Returns names rows true (Some e) s (Some n) t

mutual
  pub data IsTyped (names : Names) (rows : List CallRow) (returns : Bool) : Stmt → Used → CheckedStmt → Used → Type 0 where
    -- Expression statements and blocks (6.8.2, 6.8.3): the value of an expression is let go, and it may have none.
    Empty : (line : ℕ) (s : Used) → IsTyped names rows returns (tree.Empty line) s stmt.Empty s
    Run : (line : ℕ) (e : Expr) (s t : Used) (x : Typed) → HasType names rows e s x t → IsTyped names rows returns (tree.Run line e) s (stmt.Expr x.tree) t
    Block : (line : ℕ) (ss : Stmts) (s t : Used) (xs : List CheckedStmt) → AreTyped names rows returns ss s xs t → IsTyped names rows returns (tree.Block line ss) s (stmt.Block xs) t
    -- Selection (6.8.4) and loops (6.8.5): a condition is a number.
    If : (line : ℕ) (c : Expr) (a : Stmt) (s t u : Used) (n : CheckedExpr) (x : CheckedStmt) → HasType names rows c s (int n) t → IsTyped names rows returns a t x u → IsTyped names rows returns (tree.If line c a) s (stmt.If n x) u
    IfElse : (line : ℕ) (c : Expr) (a b : Stmt) (s t u v : Used) (n : CheckedExpr) (x y : CheckedStmt) → HasType names rows c s (int n) t → IsTyped names rows returns a t x u → IsTyped names rows returns b u y v →
        IsTyped names rows returns (tree.IfElse line c a b) s (stmt.IfElse n x y) v
    While : (line : ℕ) (c : Expr) (a : Stmt) (s t u : Used) (n : CheckedExpr) (x : CheckedStmt) → HasType names rows c s (int n) t → IsTyped names rows returns a t x u → IsTyped names rows returns (tree.While line c a) s (stmt.While n x) u
    Do : (line : ℕ) (a : Stmt) (c : Expr) (s t u : Used) (x : CheckedStmt) (n : CheckedExpr) → IsTyped names rows returns a s x t → HasType names rows c t (int n) u → IsTyped names rows returns (tree.Do line a c) s (stmt.Do x n) u
    For : (line : ℕ) (i c e : Option Expr) (a : Stmt) (s t u v w : Used) (j n k : Option CheckedExpr) (x : CheckedStmt) → MayHaveValue names rows i s j t → MayHaveNumber names rows c t n u → MayHaveValue names rows e u k v →
        IsTyped names rows returns a v x w → IsTyped names rows returns (tree.For line i c e a) s (stmt.For j n k x) w
    -- Jumps (6.8.6).
    Break : (line : ℕ) (s : Used) → IsTyped names rows returns (tree.Break line) s stmt.Break s
    Continue : (line : ℕ) (s : Used) → IsTyped names rows returns (tree.Continue line) s stmt.Continue s
    Return : (line : ℕ) (e : Option Expr) (s t : Used) (n : Option CheckedExpr) → Returns names rows returns e s n t → IsTyped names rows returns (tree.Return line e) s (stmt.Return n) t

  -- Statements in their order.
  pub data AreTyped (names : Names) (rows : List CallRow) (returns : Bool) : Stmts → Used → List CheckedStmt → Used → Type 0 where
    Done : (s : Used) → AreTyped names rows returns tree.Done s [] s
    Then : (a : Stmt) (ss : Stmts) (s t u : Used) (x : CheckedStmt) (xs : List CheckedStmt) → IsTyped names rows returns a s x t → AreTyped names rows returns ss t xs u → AreTyped names rows returns (tree.Then a ss) s (x ∷ xs) u
