-- The slot code of statements and functions, and how many cells they take.
use Rattle.std.specs.Prelude.{ℕ, suc, ◌+◌, max, List, [], ◌∷◌, ◌++◌, length, map, Option, Some, None}
use Rattle.nx_base.specs.Calls.{Rows}
use Rattle.nx_checked.specs.declared.checked.Scalar.{Scalar}
use Rattle.nx_checked.specs.declared.checked.Scalar.TheVariants as scalar
use Rattle.nx_checked.specs.declared.checked.Shape.{Shape}
use Rattle.nx_checked.specs.Frames.{bytes_of}
use Rattle.nx_checked.specs.Trees.{Expr, Constant, Literal, Function, Read, Array, Load, AddressOf, Unary, Binary, And, Or, Conditional, Convert, Advance, AdvanceBy, Retreat, Assign, AssignElement, Compound, CompoundElement, Step, StepElement, Kernel, Call, Place, Index, Deref, Args, NoMore, More, Stmt, Empty, Run, Block, If, IfElse, While, Do, For, Break, Continue, Return, Stmts, Done, Then, Fun}
use Rattle.nx_slot.specs.declared.op.Operand.TheVariants as operand
use Rattle.nx_slot.specs.declared.op.Comparison.TheVariants as compare
use Rattle.nx_slot.specs.declared.op.SlotOp.{SlotOp}
use Rattle.nx_slot.specs.declared.op.SlotOp.TheVariants as op
use Rattle.nx_slot.specs.declared.program.SlotArray.{SlotArray}
use Rattle.nx_slot.specs.declared.program.SlotFunction.{SlotFunction}
use Rattle.nx_slot.specs.Meaning.{Code}
use Rattle.nx_lower.specs.Shown.{width_of}
use Rattle.nx_lower.specs.Code.{Source, expr_code}

-- The values that expressions, places and arguments keep at most at one time, their own among them.
abbrev mutual
  pub temps_of : Expr → ℕ
  temps_of (Constant n) = 1
  temps_of (Literal i) = 1
  temps_of (Function f) = 1
  temps_of (Read x) = 1
  temps_of (Array a) = 1
  temps_of (Load w p) = place_temps p
  temps_of (AddressOf w a i) = max (temps_of a) (1 + temps_of i)
  temps_of (Unary o a) = temps_of a
  temps_of (Binary o a b) = max (temps_of a) (1 + temps_of b)
  temps_of (And a b) = max (temps_of a) (temps_of b)
  temps_of (Or a b) = max (temps_of a) (temps_of b)
  temps_of (Conditional c a b) = max (temps_of c) (max (temps_of a) (temps_of b))
  temps_of (Convert to a) = temps_of a
  temps_of (Advance w a i) = max (temps_of a) (1 + temps_of i)
  temps_of (AdvanceBy w i a) = max (temps_of i) (1 + temps_of a)
  temps_of (Retreat w a i) = max (temps_of a) (1 + temps_of i)
  temps_of (Assign s x e) = temps_of e
  temps_of (AssignElement w p e) = max (place_temps p) (1 + temps_of e)
  temps_of (Compound o s x e) = 1 + temps_of e
  temps_of (CompoundElement o w p e) = max (place_temps p) (2 + temps_of e)
  temps_of (Step v up s x) = 2
  temps_of (StepElement v up w p) = max (place_temps p) 3
  temps_of (Kernel k xs) = max 1 (args_temps xs)
  temps_of (Call f xs) = max 1 (args_temps xs)

  pub place_temps : Place → ℕ
  place_temps (Index a i) = max (temps_of a) (1 + temps_of i)
  place_temps (Deref a) = temps_of a

  pub args_temps : Args → ℕ
  args_temps NoMore = 0
  args_temps (More e xs) = max (temps_of e) (1 + args_temps xs)

abbrev pub option_temps : Option Expr → ℕ
option_temps None = 0
option_temps (Some e) = temps_of e

abbrev pub all_temps : List Expr → ℕ
all_temps [] = 0
all_temps (e ∷ es) = max (temps_of e) (all_temps es)

abbrev mutual
  pub stmt_temps : Stmt → ℕ
  stmt_temps Empty = 0
  stmt_temps (Run e) = temps_of e
  stmt_temps (Block ss) = stmts_temps ss
  stmt_temps (If c a) = max (temps_of c) (stmt_temps a)
  stmt_temps (IfElse c a b) = max (temps_of c) (max (stmt_temps a) (stmt_temps b))
  stmt_temps (While c s) = max (temps_of c) (stmt_temps s)
  stmt_temps (Do s c) = max (stmt_temps s) (temps_of c)
  stmt_temps (For a c t s) = max (option_temps a) (max (option_temps c) (max (option_temps t) (stmt_temps s)))
  stmt_temps Break = 0
  stmt_temps Continue = 0
  stmt_temps (Return e) = option_temps e

  pub stmts_temps : Stmts → ℕ
  stmts_temps Done = 0
  stmts_temps (Then s ss) = max (stmt_temps s) (stmts_temps ss)

abbrev pub fun_temps : Fun → ℕ
fun_temps g = max (all_temps g.initials) (stmts_temps g.body)

-- An expression that may be absent, whose value nobody wants.
abbrev pub option_code : Source → ℕ → Option Expr → List SlotOp
option_code s n None = []
option_code s n (Some e) = expr_code s n 0 e

-- The number in a cell is tested: where it is 0, operations are passed.
abbrev pub test_code : ℕ → ℕ → SlotOp
test_code i past = op.SkipUnless compare.Unequal i (operand.Number 0) past

-- A loop: its test, its body, its third part, and the way back to the test.
abbrev pub loop_code : ℕ → List SlotOp → List SlotOp → List SlotOp → List SlotOp
loop_code n c s t = c ++ test_code n (length s + length t + 1) ∷ (s ++ (t ++ op.Back (length c + 1 + length s + length t) ∷ []))

-- One without a test.
abbrev pub endless_code : List SlotOp → List SlotOp → List SlotOp
endless_code s t = s ++ (t ++ op.Back (length s + length t) ∷ [])

-- A loop with the test that it has.
abbrev pub for_code : Source → ℕ → Option Expr → List SlotOp → List SlotOp → List SlotOp
for_code s n None b t = endless_code b t
for_code s n (Some c) b t = loop_code n (expr_code s n 0 c) b t

-- A statement over n cells: after it, the loop's next turn begins on operations on, and its end stands out operations on.
abbrev mutual
  pub stmt_code : Source → ℕ → ℕ → ℕ → Stmt → List SlotOp
  stmt_code s n on out Empty = []
  stmt_code s n on out (Run e) = expr_code s n 0 e
  stmt_code s n on out (Block ss) = stmts_code s n on out ss
  stmt_code s n on out (If c a) =
      let ca = stmt_code s n on out a in
      expr_code s n 0 c ++ test_code n (length ca) ∷ ca
  stmt_code s n on out (IfElse c a b) =
      let cb = stmt_code s n on out b in
      let ca = stmt_code s n (1 + length cb + on) (1 + length cb + out) a in
      expr_code s n 0 c ++ test_code n (length ca + 1) ∷ (ca ++ op.Skip (length cb) ∷ cb)
  stmt_code s n on out (While c a) = loop_code n (expr_code s n 0 c) (stmt_code s n 0 1 a) []
  stmt_code s n on out (Do a c) =
      let cc = expr_code s n 0 c in
      let ca = stmt_code s n 0 (length cc + 2) a in
      ca ++ (cc ++ test_code n 1 ∷ op.Back (length ca + length cc + 1) ∷ [])
  stmt_code s n on out (For a c t b) =
      let ct = option_code s n t in
      option_code s n a ++ for_code s n c (stmt_code s n 0 (length ct + 1) b) ct
  stmt_code s n on out Break = op.Skip out ∷ []
  stmt_code s n on out Continue = op.Skip on ∷ []
  stmt_code s n on out (Return None) = op.Give (operand.Number 0) ∷ []
  stmt_code s n on out (Return (Some e)) = expr_code s n 0 e ++ op.Give (operand.Cell n) ∷ []

  pub stmts_code : Source → ℕ → ℕ → ℕ → Stmts → List SlotOp
  stmts_code s n on out Done = []
  stmts_code s n on out (Then a ss) =
      let cs = stmts_code s n on out ss in
      stmt_code s n (length cs + on) (length cs + out) a ++ cs

-- What a function does at first: its locals start in their cells, its arrays are made, and initial values are stored.
abbrev pub start_code : Scalar → ℕ → List SlotOp
start_code scalar.Int i = op.Move i (operand.Number 0) ∷ []
start_code scalar.Char i = op.Move i (operand.Number 0) ∷ []
start_code (scalar.Pointer w) i = op.Move i (operand.Number 0) ∷ op.Forge i i ∷ []

abbrev pub starts_code : List Scalar → ℕ → List SlotOp
starts_code [] i = []
starts_code (t ∷ ts) i = start_code t i ++ starts_code ts (suc i)

abbrev pub makes_code : List Shape → ℕ → List SlotOp
makes_code [] k = []
makes_code (a ∷ arrays) k = op.Make k ∷ makes_code arrays (suc k)

abbrev pub initials_code : Source → ℕ → List Expr → List SlotOp
initials_code s n [] = []
initials_code s n (e ∷ es) = expr_code s n 0 e ++ initials_code s n es

abbrev pub cells_of : Fun → ℕ
cells_of g = length g.params + length g.locals

unfoldable pub fun_code : Source → Fun → List SlotOp
fun_code s g =
    starts_code g.locals (length g.params) ++ (makes_code g.arrays 0 ++ (initials_code s (cells_of g) g.initials ++ (stmts_code s (cells_of g) 0 0 g.body ++ op.Give (operand.Number 0) ∷ [])))

abbrev pub array_of : Shape → SlotArray
array_of a = record { bytes = bytes_of a; width = width_of a.element }

-- A function of slot code, and all of a program.
abbrev pub lower_fun : Source → Fun → SlotFunction
lower_fun s g = record {
  frame = g.frame;
  params = length g.params;
  locals = cells_of g;
  temporaries = fun_temps g;
  arrays = map array_of g.arrays;
  ops = fun_code s g;
}

abbrev pub lowered : Source → List SlotFunction
lowered s = map (lower_fun s) s.program.functions

abbrev pub code_of : Source → Rows → ℕ → Code
code_of s rows stack = record { functions = lowered s; rows = rows; stack = stack }
