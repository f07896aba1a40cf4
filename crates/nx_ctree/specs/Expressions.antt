-- Which tokens are an expression, with which tree, and how many nodes its longest path has (C11 6.5).
use Rattle.std.specs.Prelude.{◌≡◌, ℕ, suc, ◌<◌, ◌%◌, ◌^◌, max, Bool, true, false, List, [], ◌∷◌, ◌++◌, Option, None, Some}
use Rattle.nx_ctok.specs.Values.{number_of, character_of, text_of}
use Rattle.nx_ctree.specs.declared.sign.Sign.{Sign}
use Rattle.nx_ctree.specs.declared.sign.Sign.TheVariants as sign
use Rattle.nx_ctree.specs.declared.sign.Signed.{Signed}
use Rattle.nx_ctree.specs.declared.program.Base.{Base}
use Rattle.nx_ctree.specs.declared.program.Base.TheVariants as base
use Rattle.nx_ctree.specs.declared.expression.UnaryOperator.{UnaryOperator}
use Rattle.nx_ctree.specs.declared.expression.UnaryOperator.TheVariants as unary
use Rattle.nx_ctree.specs.declared.expression.StepOperator.{StepOperator}
use Rattle.nx_ctree.specs.declared.expression.StepOperator.TheVariants as step
use Rattle.nx_ctree.specs.declared.expression.BinaryOperator.{BinaryOperator}
use Rattle.nx_ctree.specs.declared.expression.BinaryOperator.TheVariants as binary
use Rattle.nx_ctree.specs.declared.expression.AssignOperator.{AssignOperator}
use Rattle.nx_ctree.specs.declared.expression.AssignOperator.TheVariants as assign
use Rattle.nx_ctree.specs.declared.expression.Expr.{Expr}
use Rattle.nx_ctree.specs.declared.expression.ExprKind.{ExprKind}
use Rattle.nx_ctree.specs.declared.expression.ExprKind.TheVariants as kind
use Rattle.nx_ctree.specs.declared.expression.Place.{Place}
use Rattle.nx_ctree.specs.declared.expression.PlaceKind.{PlaceKind}
use Rattle.nx_ctree.specs.declared.expression.PlaceKind.TheVariants as place

-- An expression, and a place, that begin on a line.
abbrev pub expr : ℕ → ExprKind → Expr
expr line k = record { line = line; kind = k }

abbrev pub at : ℕ → PlaceKind → Place
at line k = record { line = line; kind = k }

-- The operators before an operand (C11 6.5.3).
abbrev pub unary_of : Sign → Option UnaryOperator
unary_of sign.Minus = Some unary.Minus
unary_of sign.Not = Some unary.Not
unary_of sign.Complement = Some unary.Complement
unary_of sign.Star = Some unary.Deref
unary_of _ = None

-- The steps.
abbrev pub step_of : Sign → Option StepOperator
step_of sign.Increment = Some step.Increment
step_of sign.Decrement = Some step.Decrement
step_of _ = None

-- The operators between two operands, and their levels from the strongest on (C11 6.5.5 to 6.5.14).
abbrev pub binary_of : Sign → Option (BinaryOperator × ℕ)
binary_of sign.Star = Some (binary.Multiply, 2)
binary_of sign.Slash = Some (binary.Divide, 2)
binary_of sign.Percent = Some (binary.Remainder, 2)
binary_of sign.Plus = Some (binary.Add, 3)
binary_of sign.Minus = Some (binary.Subtract, 3)
binary_of sign.ShiftLeft = Some (binary.ShiftLeft, 4)
binary_of sign.ShiftRight = Some (binary.ShiftRight, 4)
binary_of sign.Less = Some (binary.Less, 5)
binary_of sign.AtMost = Some (binary.AtMost, 5)
binary_of sign.Greater = Some (binary.Greater, 5)
binary_of sign.AtLeast = Some (binary.AtLeast, 5)
binary_of sign.Equal = Some (binary.Equal, 6)
binary_of sign.NotEqual = Some (binary.NotEqual, 6)
binary_of sign.BitAnd = Some (binary.BitAnd, 7)
binary_of sign.BitXor = Some (binary.BitXor, 8)
binary_of sign.BitOr = Some (binary.BitOr, 9)
binary_of sign.AndMark = Some (binary.And, 10)
binary_of sign.OrMark = Some (binary.Or, 11)
binary_of _ = None

-- The assignments (C11 6.5.16).
abbrev pub assign_of : Sign → Option AssignOperator
assign_of sign.Set = Some assign.Set
assign_of sign.AddSet = Some assign.Add
assign_of sign.SubtractSet = Some assign.Subtract
assign_of sign.MultiplySet = Some assign.Multiply
assign_of sign.DivideSet = Some assign.Divide
assign_of sign.RemainderSet = Some assign.Remainder
assign_of _ = None

-- Levels: post is 0, un is 1, the operators have 2 to 11, cond is 12, and a whole expression 13.
abbrev pub whole : ℕ
whole = 13

-- A base type: "int", or "char" with "const" before it or without.
pub data IsBase : List Signed → Base → List Signed → Type 0 where
  IntBase : (t : Signed) (rest : List Signed) → t.sign ≡ sign.Int → IsBase (t ∷ rest) base.Int rest
  CharBase : (t : Signed) (rest : List Signed) → t.sign ≡ sign.CharWord → IsBase (t ∷ rest) base.Char rest
  ConstCharBase : (t u : Signed) (rest : List Signed) → t.sign ≡ sign.Const → u.sign ≡ sign.CharWord → IsBase (t ∷ u ∷ rest) base.ConstChar rest

-- A "*", or none.
pub data IsStar : List Signed → Bool → List Signed → Type 0 where
  Plain : (ts : List Signed) → IsStar ts false ts
  Pointer : (t : Signed) (rest : List Signed) → t.sign ≡ sign.Star → IsStar (t ∷ rest) true rest

-- The nodes on the longest path of what is written to: a name that is only written is none.
abbrev pub written : AssignOperator → PlaceKind → ℕ → ℕ
written assign.Set (place.Name name) h = 0
written op p h = h

-- Each relation is over the tokens, the tree, the nodes on its longest path, and the tokens after it.
mutual
  -- A level's expression.
  pub data IsExpr : ℕ → List Signed → Expr → ℕ → List Signed → Type 0 where
    Name : (t : Signed) (rest : List Signed) → t.sign ≡ sign.Name → IsExpr 0 (t ∷ rest) (expr t.line (kind.Name t.text)) 1 rest
    Number : (t : Signed) (rest : List Signed) → t.sign ≡ sign.Number → IsExpr 0 (t ∷ rest) (expr t.line (kind.Number (number_of t.text % 2 ^ 32))) 1 rest
    Char : (t : Signed) (rest : List Signed) → t.sign ≡ sign.Char → IsExpr 0 (t ∷ rest) (expr t.line (kind.Char (character_of t.text))) 1 rest
    Text : (t : Signed) (rest : List Signed) → t.sign ≡ sign.Text → IsExpr 0 (t ∷ rest) (expr t.line (kind.Text (text_of t.text))) 1 rest
    Paren : (t c : Signed) (ts rest : List Signed) (a : Expr) (h : ℕ) → t.sign ≡ sign.OpenParen → IsExpr whole ts a h (c ∷ rest) → c.sign ≡ sign.CloseParen →
        IsExpr 0 (t ∷ ts) (expr t.line (kind.Paren a)) (suc h) rest
    Call : (t o c : Signed) (ts rest : List Signed) (args : List Expr) (h : ℕ) → t.sign ≡ sign.Name → o.sign ≡ sign.OpenParen → IsArgs ts args h (c ∷ rest) → c.sign ≡ sign.CloseParen →
        IsExpr 0 (t ∷ o ∷ ts) (expr t.line (kind.Call t.text args)) (suc h) rest
    Index : (o c : Signed) (ts us rest : List Signed) (a i : Expr) (h k : ℕ) → IsExpr 0 ts a h (o ∷ us) → o.sign ≡ sign.OpenBracket → IsExpr whole us i k (c ∷ rest) → c.sign ≡ sign.CloseBracket →
        IsExpr 0 ts (expr a.line (kind.Index a i)) (suc (max h k)) rest
    Unary : (t : Signed) (ts rest : List Signed) (op : UnaryOperator) (a : Expr) (h : ℕ) → unary_of t.sign ≡ Some op → IsExpr 1 ts a h rest →
        IsExpr 1 (t ∷ ts) (expr t.line (kind.Unary op a)) (suc h) rest
    AddressOf : (t o c : Signed) (ts us rest : List Signed) (a i : Expr) (h k : ℕ) → t.sign ≡ sign.BitAnd → IsExpr 0 ts a h (o ∷ us) → o.sign ≡ sign.OpenBracket → IsExpr whole us i k (c ∷ rest) →
        c.sign ≡ sign.CloseBracket → IsExpr 1 (t ∷ ts) (expr t.line (kind.AddressOf a i)) (suc (max h k)) rest
    Before : (t : Signed) (ts rest : List Signed) (op : StepOperator) (p : Place) (h : ℕ) → step_of t.sign ≡ Some op → IsPlace ts p h rest →
        IsExpr 1 (t ∷ ts) (expr t.line (kind.Before op p)) (suc h) rest
    Cast : (t c : Signed) (ts us vs rest : List Signed) (b : Base) (star : Bool) (a : Expr) (h : ℕ) → t.sign ≡ sign.OpenParen → IsBase ts b us → IsStar us star (c ∷ vs) → c.sign ≡ sign.CloseParen →
        IsExpr 1 vs a h rest → IsExpr 1 (t ∷ ts) (expr t.line (kind.Cast b star a)) (suc h) rest
    SizeOfName : (t o n c : Signed) (rest : List Signed) → t.sign ≡ sign.SizeOf → o.sign ≡ sign.OpenParen → n.sign ≡ sign.Name → c.sign ≡ sign.CloseParen →
        IsExpr 1 (t ∷ o ∷ n ∷ c ∷ rest) (expr t.line (kind.SizeOfName n.text)) 1 rest
    SizeOfType : (t o c : Signed) (ts rest : List Signed) (b : Base) → t.sign ≡ sign.SizeOf → o.sign ≡ sign.OpenParen → IsBase ts b (c ∷ rest) → c.sign ≡ sign.CloseParen →
        IsExpr 1 (t ∷ o ∷ ts) (expr t.line (kind.SizeOfType b)) 1 rest
    After : (t : Signed) (ts rest : List Signed) (op : StepOperator) (p : Place) (h : ℕ) → IsPostPlace ts p h (t ∷ rest) → step_of t.sign ≡ Some op →
        IsExpr 1 ts (expr p.line (kind.After op p)) (suc h) rest
    Binary : (n : ℕ) (t : Signed) (ts us rest : List Signed) (op : BinaryOperator) (a b : Expr) (h k : ℕ) → binary_of t.sign ≡ Some (op, suc n) → IsExpr (suc n) ts a h (t ∷ us) → IsExpr n us b k rest →
        IsExpr (suc n) ts (expr a.line (kind.Binary op a b)) (suc (max h k)) rest
    Conditional : (q c : Signed) (ts us vs rest : List Signed) (a b e : Expr) (h k m : ℕ) → IsExpr 11 ts a h (q ∷ us) → q.sign ≡ sign.Question → IsExpr whole us b k (c ∷ vs) → c.sign ≡ sign.Colon →
        IsExpr 12 vs e m rest → IsExpr 12 ts (expr a.line (kind.Conditional a b e)) (suc (max h (max k m))) rest
    Assign : (t : Signed) (ts us rest : List Signed) (op : AssignOperator) (p : Place) (e : Expr) (h k : ℕ) → IsPlace ts p h (t ∷ us) → assign_of t.sign ≡ Some op → IsExpr 13 us e k rest →
        IsExpr 13 ts (expr p.line (kind.Assign op p e)) (suc (max (written op p.kind h) k)) rest
    -- An expression of a level is one of the next.
    Up : (n : ℕ) (ts rest : List Signed) (a : Expr) (h : ℕ) → n < whole → IsExpr n ts a h rest → IsExpr (suc n) ts a h rest

  -- The arguments of a call (C11 6.5.2.2): none, or expressions with commas between them.
  pub data IsArgs : List Signed → List Expr → ℕ → List Signed → Type 0 where
    NoArgs : (ts : List Signed) → IsArgs ts [] 0 ts
    FirstArg : (ts rest : List Signed) (a : Expr) (h : ℕ) → IsExpr whole ts a h rest → IsArgs ts (a ∷ []) h rest
    NextArg : (c : Signed) (ts us rest : List Signed) (x : Expr) (xs : List Expr) (a : Expr) (h k : ℕ) → IsArgs ts (x ∷ xs) h (c ∷ us) → c.sign ≡ sign.Comma → IsExpr whole us a k rest →
        IsArgs ts (x ∷ xs ++ a ∷ []) (max h k) rest

  -- A place that a "++" or "--" may stand after: a name, or an index.
  pub data IsPostPlace : List Signed → Place → ℕ → List Signed → Type 0 where
    NamePlace : (t : Signed) (rest : List Signed) → t.sign ≡ sign.Name → IsPostPlace (t ∷ rest) (at t.line (place.Name t.text)) 1 rest
    IndexPlace : (o c : Signed) (ts us rest : List Signed) (a i : Expr) (h k : ℕ) → IsExpr 0 ts a h (o ∷ us) → o.sign ≡ sign.OpenBracket → IsExpr whole us i k (c ∷ rest) → c.sign ≡ sign.CloseBracket →
        IsPostPlace ts (at a.line (place.Index a i)) (suc (max h k)) rest

  -- What can be written to: such a place, or what a pointer points to.
  pub data IsPlace : List Signed → Place → ℕ → List Signed → Type 0 where
    PostPlace : (ts rest : List Signed) (p : Place) (h : ℕ) → IsPostPlace ts p h rest → IsPlace ts p h rest
    DerefPlace : (t : Signed) (ts rest : List Signed) (a : Expr) (h : ℕ) → t.sign ≡ sign.Star → IsExpr 1 ts a h rest → IsPlace (t ∷ ts) (at t.line (place.Deref a)) (suc h) rest
