-- Expressions of C as plain data: the trees of the code without the pointers between their parts. A line is that of the first token.
use Rattle.std.specs.Prelude.{ℕ, Bool, List, [], ◌∷◌, map}
use Rattle.nx_checked.specs.declared.checked.StepValue.{StepValue}
use Rattle.nx_checked.specs.declared.checked.StepValue.TheVariants as value
use Rattle.nx_ctree.specs.declared.program.Base.{Base}
use Rattle.nx_ctree.specs.declared.expression.UnaryOperator.{UnaryOperator}
use Rattle.nx_ctree.specs.declared.expression.StepOperator.{StepOperator}
use Rattle.nx_ctree.specs.declared.expression.BinaryOperator.{BinaryOperator}
use Rattle.nx_ctree.specs.declared.expression.AssignOperator.{AssignOperator}
use Rattle.nx_ctree.specs.declared.expression.Expr.{Expr as CodeExpr, fold-Expr}
use Rattle.nx_ctree.specs.declared.expression.Place.{Place as CodePlace, fold-Place}
use Rattle.nx_ctree.specs.declared.expression.ExprKind.TheOpen as form

-- An expression, what can be written to, and arguments in their order.
mutual
  pub data Expr : Type 0 where
    Name : (line : ℕ) (name : List ℕ) → Expr
    Number : (line n : ℕ) → Expr
    Char : (line c : ℕ) → Expr
    Text : (line : ℕ) (text : List ℕ) → Expr
    Paren : (line : ℕ) (a : Expr) → Expr
    Index : (line : ℕ) (a i : Expr) → Expr
    Call : (line : ℕ) (name : List ℕ) (xs : Args) → Expr
    Step : (line : ℕ) (v : StepValue) (op : StepOperator) (p : Place) → Expr
    Unary : (line : ℕ) (op : UnaryOperator) (a : Expr) → Expr
    AddressOf : (line : ℕ) (a i : Expr) → Expr
    SizeOfName : (line : ℕ) (name : List ℕ) → Expr
    SizeOfType : (line : ℕ) (b : Base) → Expr
    Cast : (line : ℕ) (b : Base) (star : Bool) (a : Expr) → Expr
    Binary : (line : ℕ) (op : BinaryOperator) (a b : Expr) → Expr
    Conditional : (line : ℕ) (c a b : Expr) → Expr
    Assign : (line : ℕ) (op : AssignOperator) (p : Place) (e : Expr) → Expr

  pub data Place : Type 0 where
    Named : (line : ℕ) (name : List ℕ) → Place
    Element : (line : ℕ) (a i : Expr) → Place
    Pointed : (line : ℕ) (a : Expr) → Place

  pub data Args : Type 0 where
    NoMore : Args
    More : (e : Expr) (xs : Args) → Args

abbrev pub args : List Expr → Args
args [] = NoMore
args (e ∷ es) = More e (args es)

abbrev pub kind_layer : form.ExprKind-F (ℕ → Expr) (ℕ → Place) Expr Place → ℕ → Expr
kind_layer (form.Assign op p e) line = Assign line op p e
kind_layer (form.Conditional c a b) line = Conditional line c a b
kind_layer (form.Binary op a b) line = Binary line op a b
kind_layer (form.Unary op a) line = Unary line op a
kind_layer (form.AddressOf a i) line = AddressOf line a i
kind_layer (form.Before op p) line = Step line value.New op p
kind_layer (form.After op p) line = Step line value.Old op p
kind_layer (form.Cast b star a) line = Cast line b star a
kind_layer (form.SizeOfName name) line = SizeOfName line name
kind_layer (form.SizeOfType b) line = SizeOfType line b
kind_layer (form.ExprKind::Name name) line = Name line name
kind_layer (form.Number n) line = Number line n
kind_layer (form.Char c) line = Char line c
kind_layer (form.Text text) line = Text line text
kind_layer (form.Paren a) line = Paren line a
kind_layer (form.Call name xs) line = Call line name (args xs)
kind_layer (form.ExprKind::Index a i) line = Index line a i

abbrev pub place_layer : form.PlaceKind-F (ℕ → Expr) (ℕ → Place) Expr Place → ℕ → Place
place_layer (form.PlaceKind::Name name) line = Named line name
place_layer (form.PlaceKind::Index a i) line = Element line a i
place_layer (form.Deref a) line = Pointed line a

abbrev pub expr_of : CodeExpr → Expr
expr_of e = fold-Expr (ℕ → Expr) (ℕ → Place) Expr Place kind_layer place_layer (λ x. x.kind x.line) (λ x. x.kind x.line) e

abbrev pub place_of : CodePlace → Place
place_of p = fold-Place (ℕ → Expr) (ℕ → Place) Expr Place kind_layer place_layer (λ x. x.kind x.line) (λ x. x.kind x.line) p

-- A list of expressions as arguments.
abbrev pub args_of : List CodeExpr → Args
args_of es = args (map expr_of es)
