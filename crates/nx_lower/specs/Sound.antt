-- Checked programs whose names there are, and whose calls have as many arguments as parameters.
use Rattle.std.specs.Prelude.{◌≡◌, ◌≢◌, ℕ, suc, ◌+◌, ◌<◌, ◌≤◌, List, [], ◌∷◌, length, Option, Some, None, slice_get}
use Rattle.nx_base.specs.declared.calls.Kind.{Kind}
use Rattle.nx_base.specs.declared.calls.Kind.TheVariants.{Out, Out4, Out8}
use Rattle.nx_base.specs.Calls.{Rows}
use Rattle.nx_checked.specs.declared.checked.Cell.{Cell}
use Rattle.nx_checked.specs.declared.checked.Cell.TheVariants as cell
use Rattle.nx_checked.specs.declared.checked.ArrayName.{ArrayName}
use Rattle.nx_checked.specs.declared.checked.ArrayName.TheVariants as array
use Rattle.nx_checked.specs.declared.checked.Scalar.{Scalar}
use Rattle.nx_checked.specs.declared.checked.UsedCall.{UsedCall}
use Rattle.nx_checked.specs.Trees.{Expr, Constant, Literal, Function, Read, Array, Load, AddressOf, Unary, Binary, And, Or, Conditional, Convert, Advance, AdvanceBy, Retreat, Assign, AssignElement, Compound, CompoundElement, Step, StepElement, Kernel, Call, Place, Index, Deref, Args, NoMore, More, count, Stmt, Empty, Run, Block, If, IfElse, While, Do, For, Break, Continue, Return, Stmts, Done, Then, Fun}
use Rattle.nx_cobjects.specs.Buffers.{enters}
use Rattle.nx_cmean.specs.Meaning.{fun_at}
use Rattle.nx_lower.specs.Code.{Source}

-- How many cells of variables a call has, and how many of its arrays are made.
pub record Stage : Type 0 where
  pub cells : ℕ
  pub made : ℕ

abbrev pub IsCell : Source → Stage → Cell → Type 0
IsCell s z (cell.Local i) = i < z.cells
IsCell s z (cell.Global i) = i < s.scalars

abbrev pub IsArray : Source → Stage → ArrayName → Type 0
IsArray s z (array.Local i) = i < z.made
IsArray s z (array.Global i) = i < length s.arrays

abbrev pub IsCall : Source → ℕ → ℕ → Type 0
IsCall s k n = (c : UsedCall) × (slice_get s.program.calls k ≡ Some c) × (length c.kinds ≡ n)

abbrev mutual
  pub SoundExpr : Source → Stage → Expr → Type 0
  SoundExpr s z (Constant n) = Unit {0}
  SoundExpr s z (Literal i) = i < length s.texts
  SoundExpr s z (Function f) = f < length s.program.functions
  SoundExpr s z (Read x) = IsCell s z x
  SoundExpr s z (Array a) = IsArray s z a
  SoundExpr s z (Load w p) = SoundPlace s z p
  SoundExpr s z (AddressOf w a i) = SoundExpr s z a × SoundExpr s z i
  SoundExpr s z (Unary o a) = SoundExpr s z a
  SoundExpr s z (Binary o a b) = SoundExpr s z a × SoundExpr s z b
  SoundExpr s z (And a b) = SoundExpr s z a × SoundExpr s z b
  SoundExpr s z (Or a b) = SoundExpr s z a × SoundExpr s z b
  SoundExpr s z (Conditional c a b) = SoundExpr s z c × SoundExpr s z a × SoundExpr s z b
  SoundExpr s z (Convert to a) = SoundExpr s z a
  SoundExpr s z (Advance w a i) = SoundExpr s z a × SoundExpr s z i
  SoundExpr s z (AdvanceBy w i a) = SoundExpr s z i × SoundExpr s z a
  SoundExpr s z (Retreat w a i) = SoundExpr s z a × SoundExpr s z i
  SoundExpr s z (Assign t x e) = IsCell s z x × SoundExpr s z e
  SoundExpr s z (AssignElement w p e) = SoundPlace s z p × SoundExpr s z e
  SoundExpr s z (Compound o t x e) = IsCell s z x × SoundExpr s z e
  SoundExpr s z (CompoundElement o w p e) = SoundPlace s z p × SoundExpr s z e
  SoundExpr s z (Step v up t x) = IsCell s z x
  SoundExpr s z (StepElement v up w p) = SoundPlace s z p
  SoundExpr s z (Kernel k xs) = IsCall s k (count xs) × SoundArgs s z xs
  SoundExpr s z (Call f xs) = (f < length s.program.functions) × (count xs ≡ length (fun_at s.program f).params) × SoundArgs s z xs

  pub SoundPlace : Source → Stage → Place → Type 0
  SoundPlace s z (Index a i) = SoundExpr s z a × SoundExpr s z i
  SoundPlace s z (Deref a) = SoundExpr s z a

  pub SoundArgs : Source → Stage → Args → Type 0
  SoundArgs s z NoMore = Unit {0}
  SoundArgs s z (More e xs) = SoundExpr s z e × SoundArgs s z xs

abbrev pub SoundOption : Source → Stage → Option Expr → Type 0
SoundOption s z None = Unit {0}
SoundOption s z (Some e) = SoundExpr s z e

abbrev mutual
  pub SoundStmt : Source → Stage → Stmt → Type 0
  SoundStmt s z Empty = Unit {0}
  SoundStmt s z (Run e) = SoundExpr s z e
  SoundStmt s z (Block ss) = SoundStmts s z ss
  SoundStmt s z (If c a) = SoundExpr s z c × SoundStmt s z a
  SoundStmt s z (IfElse c a b) = SoundExpr s z c × SoundStmt s z a × SoundStmt s z b
  SoundStmt s z (While c a) = SoundExpr s z c × SoundStmt s z a
  SoundStmt s z (Do a c) = SoundExpr s z c × SoundStmt s z a
  SoundStmt s z (For a c t b) = SoundOption s z a × SoundOption s z c × SoundOption s z t × SoundStmt s z b
  SoundStmt s z Break = Unit {0}
  SoundStmt s z Continue = Unit {0}
  SoundStmt s z (Return e) = SoundOption s z e

  pub SoundStmts : Source → Stage → Stmts → Type 0
  SoundStmts s z Done = Unit {0}
  SoundStmts s z (Then a ss) = SoundStmt s z a × SoundStmts s z ss

abbrev pub SoundAll : Source → Stage → List Expr → Type 0
SoundAll s z [] = Unit {0}
SoundAll s z (e ∷ es) = SoundExpr s z e × SoundAll s z es

-- Where a function's variables have started and its arrays are made.
abbrev pub whole : Fun → Stage
whole g = record { cells = length g.params + length g.locals; made = length g.arrays }

-- What a declaration gives is given to a local.
abbrev pub HasLocals : List Scalar → List Expr → Type 0
HasLocals [] (e ∷ es) = ⊥
HasLocals ts es = Unit {0}

pub record SoundFun (s : Source) (g : Fun) : Type 0 where
  pub few : length g.params ≤ 6
  pub locals : HasLocals g.locals g.initials
  pub initials : SoundAll s (whole g) g.initials
  pub body : SoundStmts s (whole g) g.body

abbrev pub outputs_in : List Kind → ℕ
outputs_in [] = 0
outputs_in (Out ∷ kinds) = suc (outputs_in kinds)
outputs_in (Out4 ∷ kinds) = suc (outputs_in kinds)
outputs_in (Out8 ∷ kinds) = suc (outputs_in kinds)
outputs_in (kind ∷ kinds) = outputs_in kinds

-- The rows of the call table are those that a program names, with at most six parameters, of which two have outputs.
pub record SoundCall (rows : Rows) (c : UsedCall) : Type 0 where
  pub row : rows c.number ≡ record { kinds = c.kinds; enters = enters c }
  pub number : c.number ≢ 0
  pub few : length c.kinds ≤ 6
  pub outputs : outputs_in c.kinds ≤ 2

pub record SoundProgram (s : Source) (rows : Rows) : Type 0 where
  pub functions : (f : ℕ) → f < length s.program.functions → SoundFun s (fun_at s.program f)
  pub calls : (k : ℕ) (c : UsedCall) → slice_get s.program.calls k ≡ Some c → SoundCall rows c
