-- Which statements are well typed and what they do, or their first fault.
use Rattle.std.specs.Prelude.{ℕ, Bool, true, false, List, [], Option, None, Some, Result, Ok, Err}
use Rattle.nx_calls.specs.declared.row.CallRow.{CallRow}
use Rattle.nx_ctok.specs.declared.fault.CKind.{CKind}
use Rattle.nx_checked.specs.declared.checked.CheckedExpr.{CheckedExpr}
use Rattle.nx_checked.specs.declared.checked.CheckedStmt.{CheckedStmt}
use Rattle.nx_checked.specs.declared.checked.CheckedStmt.TheVariants as stmt
use Rattle.nx_crules.specs.declared.types.CType.{CType}
use Rattle.nx_crules.specs.declared.types.CType.TheVariants as type
use Rattle.nx_crules.specs.declared.types.Typed.{Typed}
use Rattle.nx_crules.specs.Answers.{at}
use Rattle.nx_crules.specs.Rules.{wrong}
use Rattle.nx_ctype.specs.declared.names.Names.{Names}
use Rattle.nx_ctyping.specs.Checks.{Check, leaf, one, two, three, before}
use Rattle.nx_ctyping.specs.Trees.{Expr}
use Rattle.nx_ctyping.specs.Verdicts.{verdict}
use Rattle.nx_cbody.specs.Trees.{Stmt, Empty, Run, Block, If, IfElse, While, Do, For, Break, Continue, Return, Stmts, Done, Then}

-- A condition, and what a function returns, is a number (C11 6.8.4.1, 6.8.5, 6.8.6.4).
abbrev pub number_typed : CType → CheckedExpr → Result CheckedExpr CKind
number_typed type.Int t = Ok t
number_typed _ t = wrong

abbrev pub number_rule : Typed → Result CheckedExpr CKind
number_rule x = number_typed x.gives x.tree

-- The first and the third expression of "for" have a value (C11 6.8.5.3).
abbrev pub value_typed : CType → CheckedExpr → Result CheckedExpr CKind
value_typed type.Void t = wrong
value_typed _ t = Ok t

abbrev pub value_rule : Typed → Result CheckedExpr CKind
value_rule x = value_typed x.gives x.tree

-- What is there, of an expression that may be absent.
abbrev pub present : Result CheckedExpr CKind → Result (Option CheckedExpr) CKind
present (Ok t) = Ok (Some t)
present (Err k) = Err k

abbrev pub maybe : Names → List CallRow → (Typed → Result CheckedExpr CKind) → ℕ → Option Expr → Check (Option CheckedExpr)
maybe names rows rule line None = leaf (Ok None)
maybe names rows rule line (Some e) = one (λ x. present (rule x)) line (verdict names rows e)

-- A function that returns a number returns one, any other nothing (C11 6.8.6.4).
abbrev pub nothing_rule : Typed → Result CheckedExpr CKind
nothing_rule x = wrong

abbrev pub returned : Names → List CallRow → Bool → ℕ → Option Expr → Check (Option CheckedExpr)
returned names rows true line None = leaf (at line wrong)
returned names rows true line (Some e) = maybe names rows number_rule line (Some e)
returned names rows false line e = maybe names rows nothing_rule line e

abbrev pub condition : Names → List CallRow → ℕ → Expr → Check CheckedExpr
condition names rows line c = one number_rule line (verdict names rows c)

-- The three expressions of "for".
abbrev pub head : Names → List CallRow → ℕ → Option Expr → Option Expr → Option Expr → Check (Option CheckedExpr × Option CheckedExpr × Option CheckedExpr)
head names rows line i c t = three (λ i c t. Ok (i, c, t)) line (maybe names rows value_rule line i) (maybe names rows number_rule line c) (maybe names rows value_rule line t)

abbrev mutual
  -- A statement of a function that returns a number or nothing.
  pub stmt_verdict : Names → List CallRow → Bool → Stmt → Check CheckedStmt
  stmt_verdict names rows returns (Empty line) = leaf (Ok stmt.Empty)
  stmt_verdict names rows returns (Run line e) = one (λ x. Ok (stmt.Expr x.tree)) line (verdict names rows e)
  stmt_verdict names rows returns (Block line ss) = one (λ xs. Ok (stmt.Block xs)) line (stmts_verdict names rows returns ss)
  stmt_verdict names rows returns (If line c a) = two (λ c a. Ok (stmt.If c a)) line (condition names rows line c) (stmt_verdict names rows returns a)
  stmt_verdict names rows returns (IfElse line c a b) = three (λ c a b. Ok (stmt.IfElse c a b)) line (condition names rows line c) (stmt_verdict names rows returns a) (stmt_verdict names rows returns b)
  stmt_verdict names rows returns (While line c a) = two (λ c a. Ok (stmt.While c a)) line (condition names rows line c) (stmt_verdict names rows returns a)
  stmt_verdict names rows returns (Do line a c) = two (λ a c. Ok (stmt.Do a c)) line (stmt_verdict names rows returns a) (condition names rows line c)
  stmt_verdict names rows returns (For line i c t a) = two (λ h a. Ok (stmt.For h.0 h.1 h.2 a)) line (head names rows line i c t) (stmt_verdict names rows returns a)
  stmt_verdict names rows returns (Break line) = leaf (Ok stmt.Break)
  stmt_verdict names rows returns (Continue line) = leaf (Ok stmt.Continue)
  stmt_verdict names rows returns (Return line e) = one (λ e. Ok (stmt.Return e)) line (returned names rows returns line e)

  -- Statements from first to last.
  pub stmts_verdict : Names → List CallRow → Bool → Stmts → Check (List CheckedStmt)
  stmts_verdict names rows returns Done = leaf (Ok [])
  stmts_verdict names rows returns (Then s ss) = before (stmt_verdict names rows returns s) (stmts_verdict names rows returns ss)
