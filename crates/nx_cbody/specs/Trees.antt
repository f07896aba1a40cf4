-- Statements of C as plain data: the trees of the code without the pointers between their parts. A line is that of the first token.
use Rattle.std.specs.Prelude.{ℕ, List, [], ◌∷◌, map, Option, option_map}
use Rattle.nx_ctree.specs.declared.statement.Stmt.{Stmt as CodeStmt, fold-Stmt}
use Rattle.nx_ctree.specs.declared.statement.StmtKind.TheOpen as form
use Rattle.nx_ctyping.specs.Trees.{Expr, expr_of}

-- A statement, and statements in their order.
mutual
  pub data Stmt : Type 0 where
    Empty : (line : ℕ) → Stmt
    Run : (line : ℕ) (e : Expr) → Stmt
    Block : (line : ℕ) (ss : Stmts) → Stmt
    If : (line : ℕ) (c : Expr) (a : Stmt) → Stmt
    IfElse : (line : ℕ) (c : Expr) (a b : Stmt) → Stmt
    While : (line : ℕ) (c : Expr) (a : Stmt) → Stmt
    Do : (line : ℕ) (a : Stmt) (c : Expr) → Stmt
    For : (line : ℕ) (i c t : Option Expr) (a : Stmt) → Stmt
    Break : (line : ℕ) → Stmt
    Continue : (line : ℕ) → Stmt
    Return : (line : ℕ) (e : Option Expr) → Stmt

  pub data Stmts : Type 0 where
    Done : Stmts
    Then : (s : Stmt) (ss : Stmts) → Stmts

abbrev pub stmts : List Stmt → Stmts
stmts [] = Done
stmts (s ∷ ss) = Then s (stmts ss)

abbrev pub kind_layer : form.StmtKind-F (ℕ → Stmt) Stmt → ℕ → Stmt
kind_layer form.Empty line = Empty line
kind_layer (form.Expr e) line = Run line (expr_of e)
kind_layer (form.Block ss) line = Block line (stmts ss)
kind_layer (form.If c a) line = If line (expr_of c) a
kind_layer (form.IfElse c a b) line = IfElse line (expr_of c) a b
kind_layer (form.While c a) line = While line (expr_of c) a
kind_layer (form.Do a c) line = Do line a (expr_of c)
kind_layer (form.For i c t a) line = For line (option_map expr_of i) (option_map expr_of c) (option_map expr_of t) a
kind_layer form.Break line = Break line
kind_layer form.Continue line = Continue line
kind_layer (form.Return e) line = Return line (option_map expr_of e)

abbrev pub stmt_of : CodeStmt → Stmt
stmt_of s = fold-Stmt (ℕ → Stmt) Stmt kind_layer (λ x. x.kind x.line) s

-- A list of statements as a block.
abbrev pub stmts_of : List CodeStmt → Stmts
stmts_of ss = stmts (map stmt_of ss)
