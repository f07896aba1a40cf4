-- Checked programs as plain data: the trees of the code without the pointers between their parts.
use Rattle.std.specs.Prelude.{ℕ, suc, Bool, List, [], ◌∷◌, map, Option, None, Some, option_map}
use Rattle.nx_checked.specs.declared.checked.Element.{Element}
use Rattle.nx_checked.specs.declared.checked.Scalar.{Scalar}
use Rattle.nx_checked.specs.declared.checked.Cell.{Cell}
use Rattle.nx_checked.specs.declared.checked.ArrayName.{ArrayName}
use Rattle.nx_checked.specs.declared.checked.Shape.{Shape}
use Rattle.nx_checked.specs.declared.checked.Conversion.{Conversion}
use Rattle.nx_checked.specs.declared.checked.IntPrefix.{IntPrefix}
use Rattle.nx_checked.specs.declared.checked.IntOperator.{IntOperator}
use Rattle.nx_checked.specs.declared.checked.StepValue.{StepValue}
use Rattle.nx_checked.specs.declared.checked.UsedCall.{UsedCall}
use Rattle.nx_checked.specs.declared.checked.Checked.{Checked}
use Rattle.nx_checked.specs.declared.checked.CheckedFunction.{CheckedFunction}
use Rattle.nx_checked.specs.declared.checked.CheckedExpr.{CheckedExpr, fold-CheckedExpr}
use Rattle.nx_checked.specs.declared.checked.CheckedPlace.{CheckedPlace, fold-CheckedPlace}
use Rattle.nx_checked.specs.declared.checked.CheckedExpr.TheOpen as expr
use Rattle.nx_checked.specs.declared.checked.CheckedStmt.{CheckedStmt, fold-CheckedStmt}
use Rattle.nx_checked.specs.declared.checked.CheckedStmt.TheOpen as stmt
use Rattle.nx_checked.specs.Frames.{frame_of}

-- An expression, an element that is read or written, and arguments in their order.
mutual
  pub data Expr : Type 0 where
    Constant : (n : ℕ) → Expr
    Literal : (i : ℕ) → Expr
    Function : (f : ℕ) → Expr
    Read : (x : Cell) → Expr
    Array : (a : ArrayName) → Expr
    Load : (w : Element) (p : Place) → Expr
    AddressOf : (w : Element) (a i : Expr) → Expr
    Unary : (op : IntPrefix) (a : Expr) → Expr
    Binary : (op : IntOperator) (a b : Expr) → Expr
    And : (a b : Expr) → Expr
    Or : (a b : Expr) → Expr
    Conditional : (c a b : Expr) → Expr
    Convert : (to : Conversion) (a : Expr) → Expr
    Advance : (w : Element) (a i : Expr) → Expr
    AdvanceBy : (w : Element) (i a : Expr) → Expr
    Retreat : (w : Element) (a i : Expr) → Expr
    Assign : (s : Scalar) (x : Cell) (e : Expr) → Expr
    AssignElement : (w : Element) (p : Place) (e : Expr) → Expr
    Compound : (op : IntOperator) (s : Scalar) (x : Cell) (e : Expr) → Expr
    CompoundElement : (op : IntOperator) (w : Element) (p : Place) (e : Expr) → Expr
    Step : (v : StepValue) (up : Bool) (s : Scalar) (x : Cell) → Expr
    StepElement : (v : StepValue) (up : Bool) (w : Element) (p : Place) → Expr
    Kernel : (n : ℕ) (xs : Args) → Expr
    Call : (f : ℕ) (xs : Args) → Expr

  pub data Place : Type 0 where
    Index : (a i : Expr) → Place
    Deref : (a : Expr) → Place

  pub data Args : Type 0 where
    NoMore : Args
    More : (e : Expr) (xs : Args) → Args

-- A statement, and statements in their order.
mutual
  pub data Stmt : Type 0 where
    Empty : Stmt
    Run : (e : Expr) → Stmt
    Block : (ss : Stmts) → Stmt
    If : (c : Expr) (a : Stmt) → Stmt
    IfElse : (c : Expr) (a b : Stmt) → Stmt
    While : (c : Expr) (s : Stmt) → Stmt
    Do : (s : Stmt) (c : Expr) → Stmt
    For : (a c t : Option Expr) (s : Stmt) → Stmt
    Break : Stmt
    Continue : Stmt
    Return : (e : Option Expr) → Stmt

  pub data Stmts : Type 0 where
    Done : Stmts
    Then : (s : Stmt) (ss : Stmts) → Stmts

abbrev pub args : List Expr → Args
args [] = NoMore
args (e ∷ es) = More e (args es)

abbrev pub stmts : List Stmt → Stmts
stmts [] = Done
stmts (s ∷ ss) = Then s (stmts ss)

-- How many arguments there are.
abbrev pub count : Args → ℕ
count NoMore = 0
count (More e xs) = suc (count xs)

abbrev pub place_layer : expr.CheckedPlace-F Expr Place → Place
place_layer (expr.Index a i) = Index a i
place_layer (expr.Deref a) = Deref a

abbrev pub expr_layer : expr.CheckedExpr-F Expr Place → Expr
expr_layer (expr.Constant n) = Constant n
expr_layer (expr.Literal n) = Literal n
expr_layer (expr.Function f) = Function f
expr_layer (expr.Read x) = Read x
expr_layer (expr.Array a) = Array a
expr_layer (expr.Load w p) = Load w p
expr_layer (expr.AddressOf w a i) = AddressOf w a i
expr_layer (expr.Unary op a) = Unary op a
expr_layer (expr.Binary op a b) = Binary op a b
expr_layer (expr.And a b) = And a b
expr_layer (expr.Or a b) = Or a b
expr_layer (expr.Conditional c a b) = Conditional c a b
expr_layer (expr.Convert to a) = Convert to a
expr_layer (expr.Advance w a i) = Advance w a i
expr_layer (expr.AdvanceBy w i a) = AdvanceBy w i a
expr_layer (expr.Retreat w a i) = Retreat w a i
expr_layer (expr.Assign s x e) = Assign s x e
expr_layer (expr.AssignElement w p e) = AssignElement w p e
expr_layer (expr.Compound op s x e) = Compound op s x e
expr_layer (expr.CompoundElement op w p e) = CompoundElement op w p e
expr_layer (expr.Step v up s x) = Step v up s x
expr_layer (expr.StepElement v up w p) = StepElement v up w p
expr_layer (expr.Kernel n xs) = Kernel n (args xs)
expr_layer (expr.Call f xs) = Call f (args xs)

abbrev pub expr_of : CheckedExpr → Expr
expr_of e = fold-CheckedExpr Expr Place expr_layer place_layer e

abbrev pub place_of : CheckedPlace → Place
place_of p = fold-CheckedPlace Expr Place expr_layer place_layer p

abbrev pub stmt_layer : stmt.CheckedStmt-F Stmt → Stmt
stmt_layer stmt.Empty = Empty
stmt_layer (stmt.Expr e) = Run (expr_of e)
stmt_layer (stmt.Block ss) = Block (stmts ss)
stmt_layer (stmt.If c a) = If (expr_of c) a
stmt_layer (stmt.IfElse c a b) = IfElse (expr_of c) a b
stmt_layer (stmt.While c s) = While (expr_of c) s
stmt_layer (stmt.Do s c) = Do s (expr_of c)
stmt_layer (stmt.For a c t s) = For (option_map expr_of a) (option_map expr_of c) (option_map expr_of t) s
stmt_layer stmt.Break = Break
stmt_layer stmt.Continue = Continue
stmt_layer (stmt.Return e) = Return (option_map expr_of e)

abbrev pub stmt_of : CheckedStmt → Stmt
stmt_of s = fold-CheckedStmt Stmt stmt_layer s

-- A list of expressions as arguments, and one of statements as a block.
abbrev pub args_of : List CheckedExpr → Args
args_of es = args (map expr_of es)

abbrev pub stmts_of : List CheckedStmt → Stmts
stmts_of ss = stmts (map stmt_of ss)

-- A function, with the bytes that a call of it takes.
pub record Fun : Type 0 where
  pub params : List Scalar
  pub locals : List Scalar
  pub arrays : List Shape
  pub initials : List Expr
  pub body : Stmts
  pub frame : ℕ

abbrev pub fun_of : CheckedFunction → Fun
fun_of f = record {
  params = f.params;
  locals = f.locals;
  arrays = f.arrays;
  initials = map expr_of f.initials;
  body = stmts_of f.body;
  frame = frame_of f;
}

-- What of a program its steps need: its functions, and the calls of the kernel that it names.
pub record Program : Type 0 where
  pub functions : List Fun
  pub calls : List UsedCall

abbrev pub program_of : Checked → Program
program_of p = record { functions = map fun_of p.functions; calls = p.calls }
