-- Which tokens are a statement, with which tree (C11 6.8).
use Rattle.std.specs.Prelude.{◌≡◌, ℕ, suc, ◌≤◌, Bool, true, false, List, [], ◌∷◌, ◌++◌, Option, None, Some}
use Rattle.nx_ctree.specs.declared.sign.Sign.{Sign}
use Rattle.nx_ctree.specs.declared.sign.Sign.TheVariants as sign
use Rattle.nx_ctree.specs.declared.sign.Signed.{Signed}
use Rattle.nx_ctree.specs.declared.expression.Expr.{Expr}
use Rattle.nx_ctree.specs.declared.statement.Stmt.{Stmt}
use Rattle.nx_ctree.specs.declared.statement.StmtKind.{StmtKind}
use Rattle.nx_ctree.specs.declared.statement.StmtKind.TheVariants as kind
use Rattle.nx_ctree.specs.Expressions.{IsExpr, whole}

-- A statement that begins at a token.
abbrev pub stmt : Signed → StmtKind → Stmt
stmt t k = record { line = t.line; kind = k }

-- A whole expression of at most so many nodes.
pub record IsPart (d : ℕ) (ts : List Signed) (a : Expr) (rest : List Signed) : Type 0 where
  pub height : ℕ
  pub has : IsExpr whole ts a height rest
  pub within : height ≤ d

-- An expression in parentheses, as after "if" and "while".
pub data IsTest : ℕ → List Signed → Expr → List Signed → Type 0 where
  Test : (d : ℕ) (o c : Signed) (ts rest : List Signed) (a : Expr) → o.sign ≡ sign.OpenParen → IsPart d ts a (c ∷ rest) → c.sign ≡ sign.CloseParen → IsTest d (o ∷ ts) a rest

-- An expression that may be absent, and the token that ends it.
pub data IsEnded : ℕ → Sign → List Signed → Option Expr → List Signed → Type 0 where
  Absent : (d : ℕ) (s : Sign) (t : Signed) (rest : List Signed) → t.sign ≡ s → IsEnded d s (t ∷ rest) None rest
  Given : (d : ℕ) (s : Sign) (t : Signed) (ts rest : List Signed) (a : Expr) → IsPart d ts a (t ∷ rest) → t.sign ≡ s → IsEnded d s ts (Some a) rest

mutual
  -- In a loop or not; at most so many nodes deep; whether an "if" at its end has no "else"; the tokens, the tree, the tokens after it.
  -- The first branch of an "if" with an "else" ends in no "if" without one: so an "else" belongs to the nearest "if".
  pub data IsStmt : Bool → ℕ → Bool → List Signed → Stmt → List Signed → Type 0 where
    Empty : (loop : Bool) (d : ℕ) (t : Signed) (rest : List Signed) → t.sign ≡ sign.Semicolon → IsStmt loop (suc d) false (t ∷ rest) (stmt t kind.Empty) rest
    Expression : (loop : Bool) (d : ℕ) (s : Signed) (ts rest : List Signed) (a : Expr) → IsPart d ts a (s ∷ rest) → s.sign ≡ sign.Semicolon →
        IsStmt loop (suc d) false ts (record { line = a.line; kind = kind.Expr a }) rest
    Block : (loop : Bool) (d : ℕ) (t c : Signed) (ts rest : List Signed) (xs : List Stmt) → t.sign ≡ sign.OpenBrace → IsStmts loop d ts xs (c ∷ rest) → c.sign ≡ sign.CloseBrace →
        IsStmt loop (suc d) false (t ∷ ts) (stmt t (kind.Block xs)) rest
    If : (loop : Bool) (d : ℕ) (bare : Bool) (t : Signed) (ts us rest : List Signed) (a : Expr) (x : Stmt) → t.sign ≡ sign.If → IsTest d ts a us → IsStmt loop d bare us x rest →
        IsStmt loop (suc d) true (t ∷ ts) (stmt t (kind.If a x)) rest
    IfElse : (loop : Bool) (d : ℕ) (bare : Bool) (t e : Signed) (ts us vs rest : List Signed) (a : Expr) (x y : Stmt) → t.sign ≡ sign.If → IsTest d ts a us → IsStmt loop d false us x (e ∷ vs) →
        e.sign ≡ sign.Else → IsStmt loop d bare vs y rest → IsStmt loop (suc d) bare (t ∷ ts) (stmt t (kind.IfElse a x y)) rest
    While : (loop : Bool) (d : ℕ) (bare : Bool) (t : Signed) (ts us rest : List Signed) (a : Expr) (x : Stmt) → t.sign ≡ sign.While → IsTest d ts a us → IsStmt true d bare us x rest →
        IsStmt loop (suc d) bare (t ∷ ts) (stmt t (kind.While a x)) rest
    Do : (loop : Bool) (d : ℕ) (bare : Bool) (t w s : Signed) (ts us rest : List Signed) (x : Stmt) (a : Expr) → t.sign ≡ sign.Do → IsStmt true d bare ts x (w ∷ us) → w.sign ≡ sign.While →
        IsTest d us a (s ∷ rest) → s.sign ≡ sign.Semicolon → IsStmt loop (suc d) false (t ∷ ts) (stmt t (kind.Do x a)) rest
    For : (loop : Bool) (d : ℕ) (bare : Bool) (t o : Signed) (ts us vs ws rest : List Signed) (a b e : Option Expr) (x : Stmt) → t.sign ≡ sign.For → o.sign ≡ sign.OpenParen →
        IsEnded d sign.Semicolon ts a us → IsEnded d sign.Semicolon us b vs → IsEnded d sign.CloseParen vs e ws → IsStmt true d bare ws x rest →
        IsStmt loop (suc d) bare (t ∷ o ∷ ts) (stmt t (kind.For a b e x)) rest
    Break : (d : ℕ) (t s : Signed) (rest : List Signed) → t.sign ≡ sign.Break → s.sign ≡ sign.Semicolon → IsStmt true (suc d) false (t ∷ s ∷ rest) (stmt t kind.Break) rest
    Continue : (d : ℕ) (t s : Signed) (rest : List Signed) → t.sign ≡ sign.Continue → s.sign ≡ sign.Semicolon → IsStmt true (suc d) false (t ∷ s ∷ rest) (stmt t kind.Continue) rest
    Return : (loop : Bool) (d : ℕ) (t : Signed) (ts rest : List Signed) (a : Option Expr) → t.sign ≡ sign.Return → IsEnded d sign.Semicolon ts a rest →
        IsStmt loop (suc d) false (t ∷ ts) (stmt t (kind.Return a)) rest

  -- Statements in their order.
  pub data IsStmts : Bool → ℕ → List Signed → List Stmt → List Signed → Type 0 where
    Done : (loop : Bool) (d : ℕ) (ts : List Signed) → IsStmts loop d ts [] ts
    More : (loop : Bool) (d : ℕ) (bare : Bool) (ts us rest : List Signed) (xs : List Stmt) (x : Stmt) → IsStmts loop d ts xs us → IsStmt loop d bare us x rest →
        IsStmts loop d ts (xs ++ x ∷ []) rest
