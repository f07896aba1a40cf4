-- What remains that needs no operation: it gets less at each step for which slot code makes none.
use Rattle.std.proofs.Common.{◌≡◌, ℕ, zero, suc, ◌+◌, ◌<◌, ◌≤◌, List, [], ◌∷◌, Option, Some, None, arith}
use Rattle.nx_checked.specs.declared.checked.Element.{Element}
use Rattle.nx_checked.specs.declared.checked.Conversion.{Conversion}
use Rattle.nx_checked.specs.declared.checked.Conversion.TheVariants as conversion
use Rattle.nx_checked.specs.Trees.{Expr, Constant, Literal, Function, Read, Array, Load, AddressOf, Unary, Binary, And, Or, Conditional, Convert, Advance, AdvanceBy, Retreat, Assign, AssignElement, Compound, CompoundElement, Step, StepElement, Kernel, Call, Place, Index, Deref, Args, NoMore, More, count, Stmt, Empty, Run, Block, If, IfElse, While, Do, For, Break, Continue, Return, Stmts, Done, Then}
use Rattle.nx_cobjects.specs.declared.value.Prefix.TheVariants as before
use Rattle.nx_cobjects.specs.declared.value.Infix.TheVariants as between
use Rattle.nx_cmean.specs.declared.item.Leaf.TheVariants as leaf
use Rattle.nx_cmean.specs.Items.{Item, Take, Alter, Apply, Write, Raise, Reached, Fetch, FetchAt, Lay, Lift, Shift, AndThen, OrElse, Choose, Chosen, Ask, Enter, Called, Forget, Exec, Rest, Test, FirstTest, TestLoop, Turn, Again, Leave, Fall, Gap, items_then, loaded_then, place_then, fetched_then, all_then, option_then, rest_then, test_then, gaps_then, after_loop, next_turn, begun}

-- A cast to a number takes no operation.
abbrev pub quiet_cast : Conversion → ℕ
quiet_cast conversion.ToInt = 1
quiet_cast conversion.ToChar = 0
quiet_cast conversion.ToPointer = 0

-- How many items an expression has, until it decides, that may take no operation.
abbrev mutual
  pub quiet_in : Expr → ℕ
  quiet_in (Constant n) = 1
  quiet_in (Literal i) = 0
  quiet_in (Function f) = 0
  quiet_in (Read x) = 0
  quiet_in (Array a) = 0
  quiet_in (Load w p) = quiet_place p
  quiet_in (AddressOf w a i) = quiet_in a + quiet_in i
  quiet_in (Unary o a) = quiet_in a
  quiet_in (Binary o a b) = quiet_in a + quiet_in b
  quiet_in (And a b) = quiet_in a
  quiet_in (Or a b) = quiet_in a
  quiet_in (Conditional c a b) = quiet_in c
  quiet_in (Convert to a) = quiet_in a + quiet_cast to
  quiet_in (Advance w a i) = quiet_in a + quiet_in i
  quiet_in (AdvanceBy w i a) = quiet_in i + quiet_in a
  quiet_in (Retreat w a i) = quiet_in a + quiet_in i
  quiet_in (Assign s x e) = quiet_in e
  quiet_in (AssignElement w p e) = quiet_written p + quiet_in e
  quiet_in (Compound o s x e) = quiet_in e
  quiet_in (CompoundElement o w p e) = quiet_place p + quiet_in e
  quiet_in (Step v up s x) = 0
  quiet_in (StepElement v up w p) = quiet_place p
  quiet_in (Kernel k xs) = quiet_all xs
  quiet_in (Call f xs) = suc (quiet_all xs)

  pub quiet_place : Place → ℕ
  quiet_place (Index a i) = quiet_in a + quiet_in i
  quiet_place (Deref a) = quiet_in a

  pub quiet_written : Place → ℕ
  quiet_written (Index a i) = quiet_in a + quiet_in i
  quiet_written (Deref a) = suc (quiet_in a)

  pub quiet_all : Args → ℕ
  quiet_all NoMore = 0
  quiet_all (More e xs) = quiet_in e + quiet_all xs

abbrev pub quiet_option : Option Expr → ℕ
quiet_option None = 0
quiet_option (Some e) = quiet_in e

abbrev pub quiet_again : Option Expr → ℕ
quiet_again None = 0
quiet_again (Some c) = suc (quiet_in c)

abbrev mutual
  pub quiet_stmt : Stmt → ℕ
  quiet_stmt Empty = 1
  quiet_stmt (Run e) = suc (quiet_in e)
  quiet_stmt (Block ss) = suc (quiet_stmts ss)
  quiet_stmt (If c a) = suc (quiet_in c)
  quiet_stmt (IfElse c a b) = suc (quiet_in c)
  quiet_stmt (While c a) = suc (quiet_in c)
  quiet_stmt (Do a c) = suc (quiet_stmt a + quiet_in c)
  quiet_stmt (For a None t b) = suc (quiet_option a + (quiet_stmt b + quiet_option t))
  quiet_stmt (For a (Some c) t b) = suc (quiet_option a + quiet_in c)
  quiet_stmt Break = 1
  quiet_stmt Continue = 1
  quiet_stmt (Return e) = suc (quiet_option e)

  pub quiet_stmts : Stmts → ℕ
  quiet_stmts Done = 0
  quiet_stmts (Then a ss) = quiet_stmt a + quiet_stmts ss

abbrev pub weight : List Item → ℕ
weight [] = 0
weight (Exec st ∷ k) = quiet_stmt st + weight k
weight (Rest ss ∷ k) = quiet_stmts ss + weight k
weight (Turn c t st ∷ k) = quiet_option t + (quiet_again c + weight k)
weight (Again c t st ∷ k) = quiet_again c + weight k
weight (FirstTest c st ∷ k) = quiet_in c + weight k
weight (Gap n ∷ k) = suc n + weight k
weight (Take (leaf.Number n) ∷ k) = suc (weight k)
weight (Alter (before.Cast conversion.ToInt) ∷ k) = suc (weight k)
weight (Reached ∷ k) = suc (weight k)
weight (Chosen ∷ k) = suc (weight k)
weight (Called ∷ k) = suc (weight k)
weight (i ∷ k) = weight k

mutual
  pub items_weight : (e : Expr) (k : List Item) → weight (items_then e k) ≡ quiet_in e + weight k
  items_weight (Constant n) k = omega arith
  items_weight (Literal i) k = omega arith
  items_weight (Function f) k = omega arith
  items_weight (Read x) k = omega arith
  items_weight (Array a) k = omega arith
  items_weight (Load w p) k = loaded_weight w p k
  items_weight (AddressOf w a i) k = let x = items_weight a (items_then i (Apply (between.Advance w) ∷ k)) in let y = items_weight i (Apply (between.Advance w) ∷ k) in omega arith
  items_weight (Unary o a) k = items_weight a (Alter (before.Number o) ∷ k)
  items_weight (Binary o a b) k = let x = items_weight a (items_then b (Apply (between.Number o) ∷ k)) in let y = items_weight b (Apply (between.Number o) ∷ k) in omega arith
  items_weight (And a b) k = items_weight a (AndThen b ∷ k)
  items_weight (Or a b) k = items_weight a (OrElse b ∷ k)
  items_weight (Conditional c a b) k = items_weight c (Choose a b ∷ k)
  items_weight (Convert conversion.ToInt a) k = let x = items_weight a (Alter (before.Cast conversion.ToInt) ∷ k) in omega arith
  items_weight (Convert conversion.ToChar a) k = let x = items_weight a (Alter (before.Cast conversion.ToChar) ∷ k) in omega arith
  items_weight (Convert conversion.ToPointer a) k = let x = items_weight a (Alter (before.Cast conversion.ToPointer) ∷ k) in omega arith
  items_weight (Advance w a i) k = let x = items_weight a (items_then i (Apply (between.Advance w) ∷ k)) in let y = items_weight i (Apply (between.Advance w) ∷ k) in omega arith
  items_weight (AdvanceBy w i a) k = let x = items_weight i (items_then a (Apply (between.AdvanceBy w) ∷ k)) in let y = items_weight a (Apply (between.AdvanceBy w) ∷ k) in omega arith
  items_weight (Retreat w a i) k = let x = items_weight a (items_then i (Apply (between.Retreat w) ∷ k)) in let y = items_weight i (Apply (between.Retreat w) ∷ k) in omega arith
  items_weight (Assign s x e) k = items_weight e (Write s x ∷ k)
  items_weight (AssignElement w p e) k = let x = place_weight w p (items_then e (Lay w ∷ k)) in let y = items_weight e (Lay w ∷ k) in omega arith
  items_weight (Compound o s x e) k = items_weight e (Raise o s x ∷ k)
  items_weight (CompoundElement o w p e) k = let x = fetched_weight w p (items_then e (Lift o w ∷ k)) in let y = items_weight e (Lift o w ∷ k) in omega arith
  items_weight (Step v up s x) k = omega arith
  items_weight (StepElement v up w p) k = fetched_weight w p (Shift v up w ∷ k)
  items_weight (Kernel n xs) k = all_weight xs (Ask n (count xs) ∷ k)
  items_weight (Call f xs) k = let x = all_weight xs (Enter f (count xs) ∷ Called ∷ k) in omega arith

  loaded_weight : (w : Element) (p : Place) (k : List Item) → weight (loaded_then w p k) ≡ quiet_place p + weight k
  loaded_weight w (Index a i) k = let x = items_weight a (items_then i (Apply (between.Load w) ∷ k)) in let y = items_weight i (Apply (between.Load w) ∷ k) in omega arith
  loaded_weight w (Deref a) k = items_weight a (Alter (before.Load w) ∷ k)

  place_weight : (w : Element) (p : Place) (k : List Item) → weight (place_then w p k) ≡ quiet_written p + weight k
  place_weight w (Index a i) k = let x = items_weight a (items_then i (Apply (between.Advance w) ∷ k)) in let y = items_weight i (Apply (between.Advance w) ∷ k) in omega arith
  place_weight w (Deref a) k = let x = items_weight a (Reached ∷ k) in omega arith

  fetched_weight : (w : Element) (p : Place) (k : List Item) → weight (fetched_then w p k) ≡ quiet_place p + weight k
  fetched_weight w (Index a i) k = let x = items_weight a (items_then i (FetchAt w ∷ k)) in let y = items_weight i (FetchAt w ∷ k) in omega arith
  fetched_weight w (Deref a) k = items_weight a (Fetch w ∷ k)

  all_weight : (xs : Args) (k : List Item) → weight (all_then xs k) ≡ quiet_all xs + weight k
  all_weight NoMore k = omega arith
  all_weight (More e xs) k = let x = items_weight e (all_then xs k) in let y = all_weight xs k in omega arith

pub option_weight : (t : Option Expr) (k : List Item) → weight (option_then t k) ≡ quiet_option t + weight k
option_weight None k = omega arith
option_weight (Some e) k = items_weight e (Forget ∷ k)

pub rest_weight : (ss : Stmts) (k : List Item) → weight (rest_then ss k) ≡ quiet_stmts ss + weight k
rest_weight Done k = omega arith
rest_weight (Then a ss) k = omega arith

pub gaps_weight : (n : ℕ) (k : List Item) → weight (gaps_then n k) ≡ n + weight k
gaps_weight zero k = omega arith
gaps_weight (suc n) k = omega arith

after_weight : (k : List Item) → weight (after_loop k) ≤ weight k
after_weight [] = omega arith
after_weight (Turn c t s ∷ k) = omega arith
after_weight (FirstTest c s ∷ k) = omega arith
after_weight (Fall ∷ k) = omega arith
after_weight (Exec s ∷ k) = let x = after_weight k in omega arith
after_weight (Rest ss ∷ k) = let x = after_weight k in omega arith
after_weight (Again c t s ∷ k) = let x = after_weight k in omega arith
after_weight (Gap n ∷ k) = let x = after_weight k in omega arith
after_weight (Take (leaf.Number n) ∷ k) = let x = after_weight k in omega arith
after_weight (Alter (before.Cast conversion.ToInt) ∷ k) = let x = after_weight k in omega arith
after_weight (Reached ∷ k) = let x = after_weight k in omega arith
after_weight (Chosen ∷ k) = let x = after_weight k in omega arith
after_weight (Called ∷ k) = let x = after_weight k in omega arith
after_weight (i ∷ k) = after_weight k

next_weight : (k : List Item) → weight (next_turn k) ≤ weight k
next_weight [] = omega arith
next_weight (Turn c t s ∷ k) = omega arith
next_weight (FirstTest c s ∷ k) = omega arith
next_weight (Fall ∷ k) = omega arith
next_weight (Exec s ∷ k) = let x = next_weight k in omega arith
next_weight (Rest ss ∷ k) = let x = next_weight k in omega arith
next_weight (Again c t s ∷ k) = let x = next_weight k in omega arith
next_weight (Gap n ∷ k) = let x = next_weight k in omega arith
next_weight (Take (leaf.Number n) ∷ k) = let x = next_weight k in omega arith
next_weight (Alter (before.Cast conversion.ToInt) ∷ k) = let x = next_weight k in omega arith
next_weight (Reached ∷ k) = let x = next_weight k in omega arith
next_weight (Chosen ∷ k) = let x = next_weight k in omega arith
next_weight (Called ∷ k) = let x = next_weight k in omega arith
next_weight (i ∷ k) = next_weight k

pub begun_weight : (s : Stmt) (k : List Item) → weight (begun s k) < quiet_stmt s + weight k
begun_weight Empty k = omega arith
begun_weight (Run e) k = let x = items_weight e (Forget ∷ k) in omega arith
begun_weight (Block ss) k = let x = rest_weight ss k in omega arith
begun_weight (If c a) k = let x = items_weight c (Test a None ∷ k) in omega arith
begun_weight (IfElse c a b) k = let x = items_weight c (Test a (Some b) ∷ k) in omega arith
begun_weight (While c a) k = let x = items_weight c (TestLoop c None a ∷ k) in omega arith
begun_weight (Do a c) k = omega arith
begun_weight (For a None t b) k = let x = option_weight a (test_then None t b k) in omega arith
begun_weight (For a (Some c) t b) k = let x = option_weight a (test_then (Some c) t b k) in let y = items_weight c (TestLoop c t b ∷ k) in omega arith
begun_weight Break k = let x = after_weight k in omega arith
begun_weight Continue k = let x = next_weight k in omega arith
begun_weight (Return None) k = omega arith
begun_weight (Return (Some e)) k = let x = items_weight e (Leave ∷ k) in omega arith
