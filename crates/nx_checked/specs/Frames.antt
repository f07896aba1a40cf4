-- How many bytes of stack a call of a function takes: 16, 4 for each parameter, for each local and for each value that
-- waits while an expression goes on, and the bytes of its arrays. The sum is a multiple of 16.
use Rattle.std.specs.Prelude.{ℕ, ◌+◌, ◌*◌, ◌/◌, max, List, [], ◌∷◌, Option, None, Some, length}
use Rattle.nx_checked.specs.declared.checked.Element.{Element}
use Rattle.nx_checked.specs.declared.checked.Element.TheVariants as element
use Rattle.nx_checked.specs.declared.checked.Shape.{Shape}
use Rattle.nx_checked.specs.declared.checked.CheckedExpr.{CheckedExpr, fold-CheckedExpr}
use Rattle.nx_checked.specs.declared.checked.CheckedExpr.TheOpen as expr
use Rattle.nx_checked.specs.declared.checked.CheckedStmt.{CheckedStmt, fold-CheckedStmt}
use Rattle.nx_checked.specs.declared.checked.CheckedStmt.TheOpen as stmt
use Rattle.nx_checked.specs.declared.checked.CheckedFunction.{CheckedFunction}

-- The bytes of an element.
abbrev pub size_of : Element → ℕ
size_of element.Int = 4
size_of element.Char = 1

-- The bytes of an array.
abbrev pub bytes_of : Shape → ℕ
bytes_of s = s.count * size_of s.element

-- The values that arguments keep, where the earlier ones wait for the later ones.
abbrev pub arguments : List ℕ → ℕ
arguments [] = 0
arguments (t ∷ ts) = max t (1 + arguments ts)

-- The values that a place keeps, by those of its parts.
abbrev pub place_values : expr.CheckedPlace-F ℕ ℕ → ℕ
place_values (expr.Index a i) = max a (1 + i)
place_values (expr.Deref a) = a

-- The values that an expression keeps at most at one time, its own among them, by those of its parts.
abbrev pub expr_values : expr.CheckedExpr-F ℕ ℕ → ℕ
expr_values (expr.Constant n) = 1
expr_values (expr.Literal n) = 1
expr_values (expr.Function f) = 1
expr_values (expr.Read x) = 1
expr_values (expr.Array a) = 1
expr_values (expr.Load w p) = p
expr_values (expr.AddressOf w a i) = max a (1 + i)
expr_values (expr.Unary op a) = a
expr_values (expr.Binary op a b) = max a (1 + b)
expr_values (expr.And a b) = max a b
expr_values (expr.Or a b) = max a b
expr_values (expr.Conditional c a b) = max c (max a b)
expr_values (expr.Convert to a) = a
expr_values (expr.Advance w a i) = max a (1 + i)
expr_values (expr.AdvanceBy w i a) = max i (1 + a)
expr_values (expr.Retreat w a i) = max a (1 + i)
expr_values (expr.Assign s x a) = a
expr_values (expr.AssignElement w p a) = max p (1 + a)
expr_values (expr.Compound op s x a) = 1 + a
expr_values (expr.CompoundElement op w p a) = max p (2 + a)
expr_values (expr.Step v up s x) = 2
expr_values (expr.StepElement v up w p) = max p 3
expr_values (expr.Kernel n xs) = max 1 (arguments xs)
expr_values (expr.Call f xs) = max 1 (arguments xs)

abbrev pub values_of : CheckedExpr → ℕ
values_of e = fold-CheckedExpr ℕ ℕ expr_values place_values e

-- The greatest number, 0 without any.
abbrev pub greatest : List ℕ → ℕ
greatest [] = 0
greatest (n ∷ ns) = max n (greatest ns)

-- The values of an expression that may be absent.
abbrev pub option_values : Option CheckedExpr → ℕ
option_values None = 0
option_values (Some e) = values_of e

-- The greatest number of values of an expression of a statement, by those of its parts.
abbrev pub stmt_values : stmt.CheckedStmt-F ℕ → ℕ
stmt_values stmt.Empty = 0
stmt_values (stmt.Expr e) = values_of e
stmt_values (stmt.Block xs) = greatest xs
stmt_values (stmt.If c x) = max (values_of c) x
stmt_values (stmt.IfElse c x y) = max (values_of c) (max x y)
stmt_values (stmt.While c x) = max (values_of c) x
stmt_values (stmt.Do x c) = max x (values_of c)
stmt_values (stmt.For a b c x) = max (option_values a) (max (option_values b) (max (option_values c) x))
stmt_values stmt.Break = 0
stmt_values stmt.Continue = 0
stmt_values (stmt.Return e) = option_values e

abbrev pub values_in : CheckedStmt → ℕ
values_in s = fold-CheckedStmt ℕ stmt_values s

-- The values of all of a list's members.
abbrev pub all_initials : List CheckedExpr → ℕ
all_initials [] = 0
all_initials (e ∷ es) = max (values_of e) (all_initials es)

abbrev pub all_values : List CheckedStmt → ℕ
all_values [] = 0
all_values (s ∷ ss) = max (values_in s) (all_values ss)

-- The bytes of arrays, each rounded up to 4.
abbrev pub array_bytes : List Shape → ℕ
array_bytes [] = 0
array_bytes (s ∷ ss) = 4 * ((bytes_of s + 3) / 4) + array_bytes ss

-- The bytes of a call of a function.
abbrev pub frame_of : CheckedFunction → ℕ
frame_of f =
    16 * ((16 + 4 * (length f.params + length f.locals + max (all_initials f.initials) (all_values f.body)) + array_bytes f.arrays + 15) / 16)
