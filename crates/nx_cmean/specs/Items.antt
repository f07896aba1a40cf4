-- What remains to be done in a call: a list of items, the next one first.
use Rattle.std.specs.Prelude.{ℕ, zero, suc, ◌+◌, ◌-◌, ◌*◌, ◌/◌, Bool, List, [], ◌∷◌, Option, Some, None}
use Rattle.nx_checked.specs.declared.checked.Cell.{Cell}
use Rattle.nx_checked.specs.declared.checked.Element.{Element}
use Rattle.nx_checked.specs.declared.checked.Scalar.{Scalar}
use Rattle.nx_checked.specs.declared.checked.Shape.{Shape}
use Rattle.nx_checked.specs.declared.checked.IntOperator.{IntOperator}
use Rattle.nx_checked.specs.declared.checked.StepValue.{StepValue}
use Rattle.nx_checked.specs.Trees.{Expr, Constant, Literal, Function, Read, Array, Load, AddressOf, Unary, Binary, And, Or, Conditional, Convert, Advance, AdvanceBy, Retreat, Assign, AssignElement, Compound, CompoundElement, Step, StepElement, Kernel, Call, Place, Index, Deref, Args, NoMore, More, count, Stmt, Empty, Run, Block, If, IfElse, While, Do, For, Break, Continue, Return, Stmts, Done, Then, Fun}
use Rattle.nx_cobjects.specs.declared.value.Prefix.{Prefix}
use Rattle.nx_cobjects.specs.declared.value.Prefix.TheVariants as before
use Rattle.nx_cobjects.specs.declared.value.Infix.{Infix}
use Rattle.nx_cobjects.specs.declared.value.Infix.TheVariants as between
use Rattle.nx_cobjects.specs.Values.{size_of}
use Rattle.nx_cmean.specs.declared.item.Leaf.{Leaf}
use Rattle.nx_cmean.specs.declared.item.Leaf.TheVariants as leaf

pub data Item : Type 0 where
  -- a value is there: an operand, or that of a variable
  Take : (l : Leaf) → Item
  Get : (x : Cell) → Item
  -- an operator on the last value, and on the last two
  Alter : (op : Prefix) → Item
  Apply : (op : Infix) → Item
  -- a variable gets the last value; a compound assignment of the last two; `++` and `--`
  Write : (s : Scalar) (x : Cell) → Item
  Raise : (op : IntOperator) (s : Scalar) (x : Cell) → Item
  Bump : (v : StepValue) (up : Bool) (s : Scalar) (x : Cell) → Item
  -- a written `*p` is reached; what an element has comes after its pointer, for `*p` and for `a[i]`
  Reached : Item
  Fetch : (w : Element) → Item
  FetchAt : (w : Element) → Item
  -- the same as for variables, of the element at the pointer before
  Lay : (w : Element) → Item
  Lift : (op : IntOperator) (w : Element) → Item
  Shift : (v : StepValue) (up : Bool) (w : Element) → Item
  -- what follows if the last value decides so: after the left side of `&&` and `||`, and after the test of `?:`
  AndThen : (b : Expr) → Item
  OrElse : (b : Expr) → Item
  Choose : (a b : Expr) → Item
  Chosen : Item
  -- a call of the kernel, one of a function, and that one when it has come back
  Ask : (n k : ℕ) → Item
  Enter : (f k : ℕ) → Item
  Called : Item
  -- the value of an expression is let go
  Forget : Item
  -- a statement, statements of a block, and what follows the test of an `if`
  Exec : (s : Stmt) → Item
  Rest : (ss : Stmts) → Item
  Test : (a : Stmt) (b : Option Stmt) → Item
  -- a loop: the first test of `do`, what follows a test, the end of a turn, and the next test
  FirstTest : (c : Expr) (s : Stmt) → Item
  TestLoop : (c : Expr) (t : Option Expr) (s : Stmt) → Item
  Turn : (c t : Option Expr) (s : Stmt) → Item
  Again : (c t : Option Expr) (s : Stmt) → Item
  -- the value of `return` is there; the function ends without one
  Leave : Item
  Fall : Item
  -- a variable starts; some further steps of an array that is made, one more than said; the array
  Start : (s : Scalar) → Item
  Gap : (n : ℕ) → Item
  Make : (s : Shape) → Item

-- The items of an expression, before others: those of its operands, then its own.
abbrev mutual
  pub items_then : Expr → List Item → List Item
  items_then (Constant n) k = Take (leaf.Number n) ∷ k
  items_then (Literal i) k = Take (leaf.Text i) ∷ k
  items_then (Function f) k = Take (leaf.Function f) ∷ k
  items_then (Read x) k = Get x ∷ k
  items_then (Array a) k = Take (leaf.Array a) ∷ k
  items_then (Load w p) k = loaded_then w p k
  items_then (AddressOf w a i) k = items_then a (items_then i (Apply (between.Advance w) ∷ k))
  items_then (Unary op a) k = items_then a (Alter (before.Number op) ∷ k)
  items_then (Binary op a b) k = items_then a (items_then b (Apply (between.Number op) ∷ k))
  items_then (And a b) k = items_then a (AndThen b ∷ k)
  items_then (Or a b) k = items_then a (OrElse b ∷ k)
  items_then (Conditional c a b) k = items_then c (Choose a b ∷ k)
  items_then (Convert to a) k = items_then a (Alter (before.Cast to) ∷ k)
  items_then (Advance w a i) k = items_then a (items_then i (Apply (between.Advance w) ∷ k))
  items_then (AdvanceBy w i a) k = items_then i (items_then a (Apply (between.AdvanceBy w) ∷ k))
  items_then (Retreat w a i) k = items_then a (items_then i (Apply (between.Retreat w) ∷ k))
  items_then (Assign s x e) k = items_then e (Write s x ∷ k)
  items_then (AssignElement w p e) k = place_then w p (items_then e (Lay w ∷ k))
  items_then (Compound op s x e) k = Get x ∷ items_then e (Raise op s x ∷ k)
  items_then (CompoundElement op w p e) k = fetched_then w p (items_then e (Lift op w ∷ k))
  items_then (Step v up s x) k = Get x ∷ Bump v up s x ∷ k
  items_then (StepElement v up w p) k = fetched_then w p (Shift v up w ∷ k)
  items_then (Kernel n xs) k = all_then xs (Ask n (count xs) ∷ k)
  items_then (Call f xs) k = all_then xs (Enter f (count xs) ∷ Called ∷ k)

  -- an element that is read
  pub loaded_then : Element → Place → List Item → List Item
  loaded_then w (Index a i) k = items_then a (items_then i (Apply (between.Load w) ∷ k))
  loaded_then w (Deref a) k = items_then a (Alter (before.Load w) ∷ k)

  -- one that is written
  pub place_then : Element → Place → List Item → List Item
  place_then w (Index a i) k = items_then a (items_then i (Apply (between.Advance w) ∷ k))
  place_then w (Deref a) k = items_then a (Reached ∷ k)

  -- one that is read and then written
  pub fetched_then : Element → Place → List Item → List Item
  fetched_then w (Index a i) k = items_then a (items_then i (FetchAt w ∷ k))
  fetched_then w (Deref a) k = items_then a (Fetch w ∷ k)

  pub all_then : Args → List Item → List Item
  all_then NoMore k = k
  all_then (More e xs) k = items_then e (all_then xs k)

-- An expression that may be absent, whose value nobody wants.
abbrev pub option_then : Option Expr → List Item → List Item
option_then None k = k
option_then (Some e) k = items_then e (Forget ∷ k)

-- The statements of a block.
abbrev pub rest_then : Stmts → List Item → List Item
rest_then Done k = k
rest_then (Then s ss) k = Rest (Then s ss) ∷ k

-- A loop's test, and what follows it. Without a test it goes on.
abbrev pub test_then : Option Expr → Option Expr → Stmt → List Item → List Item
test_then (Some c) t s k = items_then c (TestLoop c t s ∷ k)
test_then None t s k = Exec s ∷ Turn None t s ∷ k

-- What a function does at first: its variables start, its arrays are made, its initial values are stored.
abbrev pub starts_then : List Scalar → List Item → List Item
starts_then [] k = k
starts_then (s ∷ ss) k = Start s ∷ starts_then ss k

abbrev pub gaps_then : ℕ → List Item → List Item
gaps_then zero k = k
gaps_then (suc n) k = Gap n ∷ k

-- How many steps an array takes: one for each four bytes.
abbrev pub steps_of : Shape → ℕ
steps_of s = (s.count * size_of s.element + 3) / 4

abbrev pub arrays_then : List Shape → List Item → List Item
arrays_then [] k = k
arrays_then (s ∷ ss) k = gaps_then (steps_of s - 1) (Make s ∷ arrays_then ss k)

abbrev pub initials_then : List Expr → List Item → List Item
initials_then [] k = k
initials_then (e ∷ es) k = items_then e (Forget ∷ initials_then es k)

-- What a call of a function has to do.
abbrev pub entry_then : Fun → List Item → List Item
entry_then f k = starts_then f.locals (arrays_then f.arrays (initials_then f.initials (rest_then f.body (Fall ∷ k))))

-- What remains after the innermost loop, and from the end of its turn on. Outside a loop it is the function's end.
abbrev pub after_loop : List Item → List Item
after_loop [] = []
after_loop (Turn c t s ∷ k) = k
after_loop (FirstTest c s ∷ k) = k
after_loop (Fall ∷ k) = Fall ∷ k
after_loop (i ∷ k) = after_loop k

abbrev pub next_turn : List Item → List Item
next_turn [] = []
next_turn (Turn c t s ∷ k) = Turn c t s ∷ k
next_turn (FirstTest c s ∷ k) = FirstTest c s ∷ k
next_turn (Fall ∷ k) = Fall ∷ k
next_turn (i ∷ k) = next_turn k

-- A statement is reached.
abbrev pub begun : Stmt → List Item → List Item
begun Empty k = k
begun (Run e) k = items_then e (Forget ∷ k)
begun (Block ss) k = rest_then ss k
begun (If c a) k = items_then c (Test a None ∷ k)
begun (IfElse c a b) k = items_then c (Test a (Some b) ∷ k)
begun (While c s) k = items_then c (TestLoop c None s ∷ k)
begun (Do s c) k = Exec s ∷ FirstTest c s ∷ k
begun (For a c t s) k = option_then a (test_then c t s k)
begun Break k = after_loop k
begun Continue k = next_turn k
begun (Return None) k = Fall ∷ k
begun (Return (Some e)) k = items_then e (Leave ∷ k)
