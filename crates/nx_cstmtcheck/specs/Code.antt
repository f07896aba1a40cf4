-- What the trees of the code are checked as.
use Rattle.std.specs.Prelude.{ℕ, Bool, List, Option, option_map, Result, Ok}
use Rattle.nx_calls.specs.declared.row.CallRow.{CallRow}
use Rattle.nx_ctok.specs.declared.fault.CKind.{CKind}
use Rattle.nx_ctree.specs.declared.expression.Expr.{Expr}
use Rattle.nx_ctree.specs.declared.statement.Stmt.{Stmt}
use Rattle.nx_checked.specs.declared.checked.CheckedExpr.{CheckedExpr}
use Rattle.nx_checked.specs.declared.checked.CheckedStmt.{CheckedStmt}
use Rattle.nx_checked.specs.declared.checked.CheckedStmt.TheVariants as stmt
use Rattle.nx_crules.specs.declared.types.Typed.{Typed}
use Rattle.nx_ctype.specs.declared.names.Names.{Names}
use Rattle.nx_ctyping.specs.Checks.{Check, three}
use Rattle.nx_ctyping.specs.Trees.{expr_of}
use Rattle.nx_cbody.specs.Trees.{stmt_of, stmts_of}
use Rattle.nx_cbody.specs.Statements.{number_rule, value_rule, nothing_rule, present, maybe, returned, stmt_verdict, stmts_verdict}
use Rattle.nx_cstmtcheck.specs.declared.parts.Wanted.{Wanted}
use Rattle.nx_cstmtcheck.specs.declared.parts.Wanted.TheVariants as wanted
use Rattle.nx_cstmtcheck.specs.declared.made.Tested.{Tested}
use Rattle.nx_cstmtcheck.specs.declared.made.Tested.TheVariants as tested

-- A statement with a condition before its part, as the condition and the part are known; so for the others.
abbrev pub tested_stmt : Tested → CheckedExpr → CheckedStmt → CheckedStmt
tested_stmt tested.If c a = stmt.If c a
tested_stmt tested.While c a = stmt.While c a

abbrev pub tested_rule : Tested → CheckedExpr → CheckedStmt → Result CheckedStmt CKind
tested_rule t c a = Ok (tested_stmt t c a)

abbrev pub else_rule : CheckedExpr → CheckedStmt → CheckedStmt → Result CheckedStmt CKind
else_rule c a b = Ok (stmt.IfElse c a b)

abbrev pub do_rule : CheckedStmt → CheckedExpr → Result CheckedStmt CKind
do_rule a c = Ok (stmt.Do a c)

abbrev pub for_rule : Option CheckedExpr × Option CheckedExpr × Option CheckedExpr → CheckedStmt → Result CheckedStmt CKind
for_rule h a = Ok (stmt.For h.0 h.1 h.2 a)

abbrev pub block_rule : List CheckedStmt → Result CheckedStmt CKind
block_rule xs = Ok (stmt.Block xs)

abbrev pub return_rule : Option CheckedExpr → Result CheckedStmt CKind
return_rule e = Ok (stmt.Return e)

abbrev pub run_rule : Typed → Result CheckedStmt CKind
run_rule x = Ok (stmt.Expr x.tree)

abbrev pub head_rule : Option CheckedExpr → Option CheckedExpr → Option CheckedExpr → Result (Option CheckedExpr × Option CheckedExpr × Option CheckedExpr) CKind
head_rule i c t = Ok (i, c, t)

-- What is wanted of an expression.
abbrev pub rule_of : Wanted → Typed → Result CheckedExpr CKind
rule_of wanted.Number = number_rule
rule_of wanted.Value = value_rule
rule_of wanted.Nothing = nothing_rule

abbrev pub wanted_rule : Wanted → Typed → Result (Option CheckedExpr) CKind
wanted_rule w x = present (rule_of w x)

-- An expression that may be absent, and what a function returns.
unfoldable pub maybe_check : Names → List CallRow → Wanted → ℕ → Option Expr → Check (Option CheckedExpr)
maybe_check names rows w line e = maybe names rows (rule_of w) line (option_map expr_of e)

unfoldable pub returned_check : Names → List CallRow → Bool → ℕ → Option Expr → Check (Option CheckedExpr)
returned_check names rows returns line e = returned names rows returns line (option_map expr_of e)

-- The three expressions of "for".
abbrev pub head_check : Names → List CallRow → ℕ → Option Expr → Option Expr → Option Expr → Check (Option CheckedExpr × Option CheckedExpr × Option CheckedExpr)
head_check names rows line i c t = three head_rule line (maybe_check names rows wanted.Value line i) (maybe_check names rows wanted.Number line c) (maybe_check names rows wanted.Value line t)

-- A statement, and statements in their order.
unfoldable pub statement_check : Names → List CallRow → Bool → Stmt → Check CheckedStmt
statement_check names rows returns s = stmt_verdict names rows returns (stmt_of s)

unfoldable pub statements_check : Names → List CallRow → Bool → List Stmt → Check (List CheckedStmt)
statements_check names rows returns ss = stmts_verdict names rows returns (stmts_of ss)
