-- What each form of the code's trees is.
use Rattle.std.proofs.Common.{◌≡◌, ℕ, Bool, List, Option, sym, ap, ◌∙◌}
use Rattle.std.specs.Prelude.{option_map}
use Rattle.nx_checked.specs.declared.checked.Element.{Element}
use Rattle.nx_checked.specs.declared.checked.Scalar.{Scalar}
use Rattle.nx_checked.specs.declared.checked.Cell.{Cell}
use Rattle.nx_checked.specs.declared.checked.ArrayName.{ArrayName}
use Rattle.nx_checked.specs.declared.checked.Conversion.{Conversion}
use Rattle.nx_checked.specs.declared.checked.IntPrefix.{IntPrefix}
use Rattle.nx_checked.specs.declared.checked.IntOperator.{IntOperator}
use Rattle.nx_checked.specs.declared.checked.StepValue.{StepValue}
use Rattle.nx_checked.specs.declared.checked.CheckedExpr.{CheckedExpr}
use Rattle.nx_checked.specs.declared.checked.CheckedExpr.TheVariants as rust_expr
use Rattle.nx_checked.specs.declared.checked.CheckedExpr.TheOpen as form
use Rattle.nx_checked.specs.declared.checked.CheckedExpr.TheFolds.{fold-roll-CheckedExpr, fold-roll-CheckedPlace}
use Rattle.nx_checked.specs.declared.checked.CheckedPlace.{CheckedPlace}
use Rattle.nx_checked.specs.declared.checked.CheckedPlace.TheVariants as rust_place
use Rattle.nx_checked.specs.declared.checked.CheckedStmt.{CheckedStmt}
use Rattle.nx_checked.specs.declared.checked.CheckedStmt.TheVariants as rust_stmt
use Rattle.nx_checked.specs.declared.checked.CheckedStmt.TheOpen as stmt_form
use Rattle.nx_checked.specs.declared.checked.CheckedStmt.TheFolds.{fold-roll-CheckedStmt}
use Rattle.nx_checked.specs.Trees.{Expr, Constant, Literal, Function, Read, Array, Load, AddressOf, Unary, Binary, And, Or, Conditional, Convert, Advance, AdvanceBy, Retreat, Assign, AssignElement, Compound, CompoundElement, Step, StepElement, Kernel, Call, Place, Index, Deref, Stmt, Empty, Run, Block, If, IfElse, While, Do, For, Break, Continue, Return, expr_of, place_of, stmt_of, args_of, stmts_of, expr_layer, place_layer, stmt_layer}

pub at_constant : (n : ℕ) → expr_of (rust_expr.Constant n) ≡ Constant n
at_constant n = ap (λ x. expr_of x) (sym (rust_expr.rolls-Constant n)) ∙ fold-roll-CheckedExpr Expr Place expr_layer place_layer (form.Constant n)

pub at_literal : (i : ℕ) → expr_of (rust_expr.Literal i) ≡ Literal i
at_literal i = ap (λ x. expr_of x) (sym (rust_expr.rolls-Literal i)) ∙ fold-roll-CheckedExpr Expr Place expr_layer place_layer (form.Literal i)

pub at_function : (f : ℕ) → expr_of (rust_expr.Function f) ≡ Function f
at_function f = ap (λ x. expr_of x) (sym (rust_expr.rolls-Function f)) ∙ fold-roll-CheckedExpr Expr Place expr_layer place_layer (form.Function f)

pub at_read : (x : Cell) → expr_of (rust_expr.Read x) ≡ Read x
at_read x = ap (λ x. expr_of x) (sym (rust_expr.rolls-Read x)) ∙ fold-roll-CheckedExpr Expr Place expr_layer place_layer (form.Read x)

pub at_array : (a : ArrayName) → expr_of (rust_expr.Array a) ≡ Array a
at_array a = ap (λ x. expr_of x) (sym (rust_expr.rolls-Array a)) ∙ fold-roll-CheckedExpr Expr Place expr_layer place_layer (form.Array a)

pub at_load : (w : Element) (p : CheckedPlace) → expr_of (rust_expr.Load w p) ≡ Load w (place_of p)
at_load w p = ap (λ x. expr_of x) (sym (rust_expr.rolls-Load w p)) ∙ fold-roll-CheckedExpr Expr Place expr_layer place_layer (form.Load w p)

pub at_address_of : (w : Element) (a i : CheckedExpr) → expr_of (rust_expr.AddressOf w a i) ≡ AddressOf w (expr_of a) (expr_of i)
at_address_of w a i = ap (λ x. expr_of x) (sym (rust_expr.rolls-AddressOf w a i)) ∙ fold-roll-CheckedExpr Expr Place expr_layer place_layer (form.AddressOf w a i)

pub at_unary : (op : IntPrefix) (a : CheckedExpr) → expr_of (rust_expr.Unary op a) ≡ Unary op (expr_of a)
at_unary op a = ap (λ x. expr_of x) (sym (rust_expr.rolls-Unary op a)) ∙ fold-roll-CheckedExpr Expr Place expr_layer place_layer (form.Unary op a)

pub at_binary : (op : IntOperator) (a b : CheckedExpr) → expr_of (rust_expr.Binary op a b) ≡ Binary op (expr_of a) (expr_of b)
at_binary op a b = ap (λ x. expr_of x) (sym (rust_expr.rolls-Binary op a b)) ∙ fold-roll-CheckedExpr Expr Place expr_layer place_layer (form.Binary op a b)

pub at_and : (a b : CheckedExpr) → expr_of (rust_expr.And a b) ≡ And (expr_of a) (expr_of b)
at_and a b = ap (λ x. expr_of x) (sym (rust_expr.rolls-And a b)) ∙ fold-roll-CheckedExpr Expr Place expr_layer place_layer (form.And a b)

pub at_or : (a b : CheckedExpr) → expr_of (rust_expr.Or a b) ≡ Or (expr_of a) (expr_of b)
at_or a b = ap (λ x. expr_of x) (sym (rust_expr.rolls-Or a b)) ∙ fold-roll-CheckedExpr Expr Place expr_layer place_layer (form.Or a b)

pub at_conditional : (c a b : CheckedExpr) → expr_of (rust_expr.Conditional c a b) ≡ Conditional (expr_of c) (expr_of a) (expr_of b)
at_conditional c a b = ap (λ x. expr_of x) (sym (rust_expr.rolls-Conditional c a b)) ∙ fold-roll-CheckedExpr Expr Place expr_layer place_layer (form.Conditional c a b)

pub at_convert : (to : Conversion) (a : CheckedExpr) → expr_of (rust_expr.Convert to a) ≡ Convert to (expr_of a)
at_convert to a = ap (λ x. expr_of x) (sym (rust_expr.rolls-Convert to a)) ∙ fold-roll-CheckedExpr Expr Place expr_layer place_layer (form.Convert to a)

pub at_advance : (w : Element) (a i : CheckedExpr) → expr_of (rust_expr.Advance w a i) ≡ Advance w (expr_of a) (expr_of i)
at_advance w a i = ap (λ x. expr_of x) (sym (rust_expr.rolls-Advance w a i)) ∙ fold-roll-CheckedExpr Expr Place expr_layer place_layer (form.Advance w a i)

pub at_advance_by : (w : Element) (i a : CheckedExpr) → expr_of (rust_expr.AdvanceBy w i a) ≡ AdvanceBy w (expr_of i) (expr_of a)
at_advance_by w i a = ap (λ x. expr_of x) (sym (rust_expr.rolls-AdvanceBy w i a)) ∙ fold-roll-CheckedExpr Expr Place expr_layer place_layer (form.AdvanceBy w i a)

pub at_retreat : (w : Element) (a i : CheckedExpr) → expr_of (rust_expr.Retreat w a i) ≡ Retreat w (expr_of a) (expr_of i)
at_retreat w a i = ap (λ x. expr_of x) (sym (rust_expr.rolls-Retreat w a i)) ∙ fold-roll-CheckedExpr Expr Place expr_layer place_layer (form.Retreat w a i)

pub at_assign : (s : Scalar) (x : Cell) (e : CheckedExpr) → expr_of (rust_expr.Assign s x e) ≡ Assign s x (expr_of e)
at_assign s x e = ap (λ x. expr_of x) (sym (rust_expr.rolls-Assign s x e)) ∙ fold-roll-CheckedExpr Expr Place expr_layer place_layer (form.Assign s x e)

pub at_assign_element : (w : Element) (p : CheckedPlace) (e : CheckedExpr) → expr_of (rust_expr.AssignElement w p e) ≡ AssignElement w (place_of p) (expr_of e)
at_assign_element w p e = ap (λ x. expr_of x) (sym (rust_expr.rolls-AssignElement w p e)) ∙ fold-roll-CheckedExpr Expr Place expr_layer place_layer (form.AssignElement w p e)

pub at_compound : (op : IntOperator) (s : Scalar) (x : Cell) (e : CheckedExpr) → expr_of (rust_expr.Compound op s x e) ≡ Compound op s x (expr_of e)
at_compound op s x e = ap (λ x. expr_of x) (sym (rust_expr.rolls-Compound op s x e)) ∙ fold-roll-CheckedExpr Expr Place expr_layer place_layer (form.Compound op s x e)

pub at_compound_element : (op : IntOperator) (w : Element) (p : CheckedPlace) (e : CheckedExpr) → expr_of (rust_expr.CompoundElement op w p e) ≡ CompoundElement op w (place_of p) (expr_of e)
at_compound_element op w p e = ap (λ x. expr_of x) (sym (rust_expr.rolls-CompoundElement op w p e)) ∙ fold-roll-CheckedExpr Expr Place expr_layer place_layer (form.CompoundElement op w p e)

pub at_step : (v : StepValue) (up : Bool) (s : Scalar) (x : Cell) → expr_of (rust_expr.Step v up s x) ≡ Step v up s x
at_step v up s x = ap (λ x. expr_of x) (sym (rust_expr.rolls-Step v up s x)) ∙ fold-roll-CheckedExpr Expr Place expr_layer place_layer (form.Step v up s x)

pub at_step_element : (v : StepValue) (up : Bool) (w : Element) (p : CheckedPlace) → expr_of (rust_expr.StepElement v up w p) ≡ StepElement v up w (place_of p)
at_step_element v up w p = ap (λ x. expr_of x) (sym (rust_expr.rolls-StepElement v up w p)) ∙ fold-roll-CheckedExpr Expr Place expr_layer place_layer (form.StepElement v up w p)

pub at_kernel : (n : ℕ) (xs : List CheckedExpr) → expr_of (rust_expr.Kernel n xs) ≡ Kernel n (args_of xs)
at_kernel n xs = ap (λ x. expr_of x) (sym (rust_expr.rolls-Kernel n xs)) ∙ fold-roll-CheckedExpr Expr Place expr_layer place_layer (form.Kernel n xs)

pub at_call : (f : ℕ) (xs : List CheckedExpr) → expr_of (rust_expr.Call f xs) ≡ Call f (args_of xs)
at_call f xs = ap (λ x. expr_of x) (sym (rust_expr.rolls-Call f xs)) ∙ fold-roll-CheckedExpr Expr Place expr_layer place_layer (form.Call f xs)

pub place_index : (a i : CheckedExpr) → place_of (rust_place.Index a i) ≡ Index (expr_of a) (expr_of i)
place_index a i = ap (λ x. place_of x) (sym (rust_place.rolls-Index a i)) ∙ fold-roll-CheckedPlace Expr Place expr_layer place_layer (form.Index a i)

pub place_deref : (a : CheckedExpr) → place_of (rust_place.Deref a) ≡ Deref (expr_of a)
place_deref a = ap (λ x. place_of x) (sym (rust_place.rolls-Deref a)) ∙ fold-roll-CheckedPlace Expr Place expr_layer place_layer (form.Deref a)

pub stmt_empty : stmt_of rust_stmt.Empty ≡ Empty
stmt_empty = ap (λ x. stmt_of x) (sym rust_stmt.rolls-Empty) ∙ fold-roll-CheckedStmt Stmt stmt_layer stmt_form.Empty

pub stmt_expr : (e : CheckedExpr) → stmt_of (rust_stmt.Expr e) ≡ Run (expr_of e)
stmt_expr e = ap (λ x. stmt_of x) (sym (rust_stmt.rolls-Expr e)) ∙ fold-roll-CheckedStmt Stmt stmt_layer (stmt_form.Expr e)

pub stmt_block : (ss : List CheckedStmt) → stmt_of (rust_stmt.Block ss) ≡ Block (stmts_of ss)
stmt_block ss = ap (λ x. stmt_of x) (sym (rust_stmt.rolls-Block ss)) ∙ fold-roll-CheckedStmt Stmt stmt_layer (stmt_form.Block ss)

pub stmt_if : (c : CheckedExpr) (a : CheckedStmt) → stmt_of (rust_stmt.If c a) ≡ If (expr_of c) (stmt_of a)
stmt_if c a = ap (λ x. stmt_of x) (sym (rust_stmt.rolls-If c a)) ∙ fold-roll-CheckedStmt Stmt stmt_layer (stmt_form.If c a)

pub stmt_if_else : (c : CheckedExpr) (a b : CheckedStmt) → stmt_of (rust_stmt.IfElse c a b) ≡ IfElse (expr_of c) (stmt_of a) (stmt_of b)
stmt_if_else c a b = ap (λ x. stmt_of x) (sym (rust_stmt.rolls-IfElse c a b)) ∙ fold-roll-CheckedStmt Stmt stmt_layer (stmt_form.IfElse c a b)

pub stmt_while : (c : CheckedExpr) (s : CheckedStmt) → stmt_of (rust_stmt.While c s) ≡ While (expr_of c) (stmt_of s)
stmt_while c s = ap (λ x. stmt_of x) (sym (rust_stmt.rolls-While c s)) ∙ fold-roll-CheckedStmt Stmt stmt_layer (stmt_form.While c s)

pub stmt_do : (s : CheckedStmt) (c : CheckedExpr) → stmt_of (rust_stmt.Do s c) ≡ Do (stmt_of s) (expr_of c)
stmt_do s c = ap (λ x. stmt_of x) (sym (rust_stmt.rolls-Do s c)) ∙ fold-roll-CheckedStmt Stmt stmt_layer (stmt_form.Do s c)

pub stmt_for : (a c t : Option CheckedExpr) (s : CheckedStmt) → stmt_of (rust_stmt.For a c t s) ≡ For (option_map expr_of a) (option_map expr_of c) (option_map expr_of t) (stmt_of s)
stmt_for a c t s = ap (λ x. stmt_of x) (sym (rust_stmt.rolls-For a c t s)) ∙ fold-roll-CheckedStmt Stmt stmt_layer (stmt_form.For a c t s)

pub stmt_break : stmt_of rust_stmt.Break ≡ Break
stmt_break = ap (λ x. stmt_of x) (sym rust_stmt.rolls-Break) ∙ fold-roll-CheckedStmt Stmt stmt_layer stmt_form.Break

pub stmt_continue : stmt_of rust_stmt.Continue ≡ Continue
stmt_continue = ap (λ x. stmt_of x) (sym rust_stmt.rolls-Continue) ∙ fold-roll-CheckedStmt Stmt stmt_layer stmt_form.Continue

pub stmt_return : (e : Option CheckedExpr) → stmt_of (rust_stmt.Return e) ≡ Return (option_map expr_of e)
stmt_return e = ap (λ x. stmt_of x) (sym (rust_stmt.rolls-Return e)) ∙ fold-roll-CheckedStmt Stmt stmt_layer (stmt_form.Return e)
