-- The slot code of a checked program.
use Rattle.std.specs.Prelude.{ℕ, suc, ◌+◌, ◌*◌, Bool, true, false, List, [], ◌∷◌, ◌++◌, length, sum, take, Option, Some, None, slice_get}
use Rattle.nx_checked.specs.declared.checked.Element.{Element}
use Rattle.nx_checked.specs.declared.checked.Element.TheVariants as element
use Rattle.nx_checked.specs.declared.checked.Scalar.{Scalar}
use Rattle.nx_checked.specs.declared.checked.Scalar.TheVariants as scalar
use Rattle.nx_checked.specs.declared.checked.Cell.{Cell}
use Rattle.nx_checked.specs.declared.checked.Cell.TheVariants as cell
use Rattle.nx_checked.specs.declared.checked.ArrayName.{ArrayName}
use Rattle.nx_checked.specs.declared.checked.ArrayName.TheVariants as array
use Rattle.nx_checked.specs.declared.checked.Shape.{Shape}
use Rattle.nx_checked.specs.declared.checked.Conversion.{Conversion}
use Rattle.nx_checked.specs.declared.checked.Conversion.TheVariants as conversion
use Rattle.nx_checked.specs.declared.checked.IntPrefix.{IntPrefix}
use Rattle.nx_checked.specs.declared.checked.IntPrefix.TheVariants as int_prefix
use Rattle.nx_checked.specs.declared.checked.IntOperator.{IntOperator}
use Rattle.nx_checked.specs.declared.checked.IntOperator.TheVariants as int
use Rattle.nx_checked.specs.declared.checked.StepValue.{StepValue}
use Rattle.nx_checked.specs.declared.checked.StepValue.TheVariants.{New, Old}
use Rattle.nx_checked.specs.declared.checked.UsedCall.{UsedCall}
use Rattle.nx_checked.specs.Frames.{array_bytes}
use Rattle.nx_checked.specs.Trees.{Expr, Constant, Literal, Function, Read, Array, Load, AddressOf, Unary, Binary, And, Or, Conditional, Convert, Advance, AdvanceBy, Retreat, Assign, AssignElement, Compound, CompoundElement, Step, StepElement, Kernel, Call, Place, Index, Deref, Args, NoMore, More, count, Program}
use Rattle.nx_cmean.specs.Meaning.{fun_at}
use Rattle.nx_slot.specs.declared.op.Operand.{Operand}
use Rattle.nx_slot.specs.declared.op.Operand.TheVariants as operand
use Rattle.nx_slot.specs.declared.op.Comparison.TheVariants as compare
use Rattle.nx_slot.specs.declared.op.Binary.TheVariants as binary
use Rattle.nx_slot.specs.declared.op.Binary as slot_binary
use Rattle.nx_slot.specs.declared.op.Unary.TheVariants as unary
use Rattle.nx_slot.specs.declared.op.Section.TheVariants.{Global, Literal as InLiterals}
use Rattle.nx_slot.specs.declared.op.StaticObject.{StaticObject}
use Rattle.nx_slot.specs.declared.op.SlotOp.{SlotOp}
use Rattle.nx_slot.specs.declared.op.SlotOp.TheVariants as op
use Rattle.nx_lower.specs.Shown.{Counts, width_of}

-- What the code of a program depends on: its functions and calls, how many variables its file has, its arrays, and the
-- lengths of its texts.
pub record Source : Type 0 where
  pub program : Program
  pub scalars : ℕ
  pub arrays : List Shape
  pub texts : List ℕ

abbrev pub counts : Source → Counts
counts s = record { scalars = s.scalars; arrays = length s.arrays; texts = length s.texts }

-- Among the globals variables come first, each in a word, and then arrays, each rounded up to words.
abbrev pub scalar_object : Source → ℕ → StaticObject
scalar_object s i = record { name = i; section = Global (4 * i) }

abbrev pub array_object : Source → ℕ → StaticObject
array_object s i = record { name = s.scalars + i; section = Global (4 * s.scalars + array_bytes (take i s.arrays)) }

abbrev pub text_object : Source → ℕ → StaticObject
text_object s i = record { name = s.scalars + (length s.arrays + i); section = InLiterals (sum (take i s.texts)) }

abbrev pub call_number : Option UsedCall → ℕ
call_number None = 0
call_number (Some c) = c.number

abbrev pub number_of : Source → ℕ → ℕ
number_of s n = call_number (slice_get s.program.calls n)

-- Operators.
abbrev pub binary_of : IntOperator → slot_binary.Binary
binary_of int.BitOr = binary.Or
binary_of int.BitXor = binary.Xor
binary_of int.BitAnd = binary.And
binary_of int.Equal = binary.Compare compare.Equal
binary_of int.NotEqual = binary.Compare compare.Unequal
binary_of int.Less = binary.Compare compare.Less
binary_of int.AtMost = binary.Compare compare.AtMost
binary_of int.Greater = binary.Compare compare.Greater
binary_of int.AtLeast = binary.Compare compare.AtLeast
binary_of int.ShiftLeft = binary.ShiftLeft
binary_of int.ShiftRight = binary.ShiftRight
binary_of int.Add = binary.Add
binary_of int.Subtract = binary.Subtract
binary_of int.Multiply = binary.Multiply
binary_of int.Divide = binary.Divide
binary_of int.Remainder = binary.Remainder

-- The number in a cell becomes 1 where it isn't 0.
abbrev pub truth_code : ℕ → SlotOp
truth_code i = op.Apply (binary.Compare compare.Unequal) i i (operand.Number 0)

abbrev pub prefix_code : IntPrefix → ℕ → SlotOp
prefix_code int_prefix.Minus i = op.Change unary.Negate i i
prefix_code int_prefix.Not i = op.Apply (binary.Compare compare.Equal) i i (operand.Number 0)
prefix_code int_prefix.Complement i = op.Apply binary.Xor i i (operand.Number 4294967295)

abbrev pub convert_code : Conversion → ℕ → List SlotOp
convert_code conversion.ToInt i = []
convert_code conversion.ToChar i = op.Change unary.LowByte i i ∷ []
convert_code conversion.ToPointer i = op.Forge i i ∷ []

-- An operand on the right: a constant is none of the cells.
abbrev pub right_of : Expr → ℕ → Operand
right_of (Constant n) i = operand.Number n
right_of e i = operand.Cell i

-- What a variable keeps of the value in a cell, and the value of a variable.
abbrev pub kept_code : Scalar → ℕ → List SlotOp
kept_code scalar.Int i = []
kept_code scalar.Char i = op.Change unary.LowByte i i ∷ []
kept_code (scalar.Pointer w) i = []

abbrev pub write_code : Source → Cell → ℕ → SlotOp
write_code s (cell.Local x) i = op.Move x (operand.Cell i)
write_code s (cell.Global x) i = op.Keep (scalar_object s x) i

abbrev pub read_code : Source → Cell → ℕ → SlotOp
read_code s (cell.Local x) i = op.Move i (operand.Cell x)
read_code s (cell.Global x) i = op.Fetch i (scalar_object s x)

abbrev pub array_code : Source → ArrayName → ℕ → SlotOp
array_code s (array.Local a) i = op.Local i a
array_code s (array.Global a) i = op.Static i (array_object s a)

-- What an element keeps of the number in a cell comes to another.
abbrev pub cut_code : Element → ℕ → ℕ → SlotOp
cut_code element.Int to i = op.Move to (operand.Cell i)
cut_code element.Char to i = op.Change unary.LowByte to i

-- A compound assignment's operator: on numbers, or a pointer that moves.
abbrev pub raise_code : IntOperator → Scalar → ℕ → ℕ → Operand → List SlotOp
raise_code o scalar.Int to i r = op.Apply (binary_of o) to i r ∷ []
raise_code o scalar.Char to i r = op.Apply (binary_of o) to i r ∷ op.Change unary.LowByte to to ∷ []
raise_code o (scalar.Pointer w) to i r = op.Index to i r (width_of w) ∷ []

-- `++` and `--` add a number.
abbrev pub stepping_operator : Bool → IntOperator
stepping_operator true = int.Add
stepping_operator false = int.Subtract

abbrev pub step_number : Bool → Scalar → ℕ
step_number up scalar.Int = 1
step_number up scalar.Char = 1
step_number true (scalar.Pointer w) = 1
step_number false (scalar.Pointer w) = 4294967295

-- The cell of the new value, over that of the old one or after it.
abbrev pub new_cell : StepValue → ℕ → ℕ → ℕ
new_cell New i j = i
new_cell Old i j = j

-- Parameters of a character keep the low bytes of their arguments.
abbrev pub arguments_code : List Scalar → ℕ → List SlotOp
arguments_code [] i = []
arguments_code (s ∷ ss) i = kept_code s i ++ arguments_code ss (i + 1)

-- A compound assignment of a pointer moves it down by a negative number.
abbrev pub negate_code : IntOperator → Scalar → ℕ → List SlotOp
negate_code o scalar.Int i = []
negate_code o scalar.Char i = []
negate_code int.Subtract (scalar.Pointer w) i = op.Change unary.Negate i i ∷ []
negate_code o (scalar.Pointer w) i = []

-- The code of an operand on the right: a constant needs none.
abbrev pub right_code : Expr → List SlotOp → List SlotOp
right_code (Constant n) code = []
right_code e code = code

-- `++` and `--` of an element, which a pointer's cell and the next one have: the new value is stored, and one is left.
abbrev pub step_element_code : ℕ → ℕ → StepValue → Bool → Element → List SlotOp
step_element_code n d New up w =
    op.Apply (binary_of (stepping_operator up)) (n + suc d) (n + suc d) (operand.Number 1) ∷ op.Store (n + d) (n + suc d) (width_of w) ∷ cut_code w (n + d) (n + suc d) ∷ []
step_element_code n d Old up w =
    op.Apply (binary_of (stepping_operator up)) (n + suc (suc d)) (n + suc d) (operand.Number 1) ∷ op.Store (n + d) (n + suc (suc d)) (width_of w) ∷ op.Move (n + d) (operand.Cell (n + suc d)) ∷ []

-- An expression over n cells, where d values wait: its value comes to the cell after them.
abbrev mutual
  pub expr_code : Source → ℕ → ℕ → Expr → List SlotOp
  expr_code s n d (Constant c) = op.Move (n + d) (operand.Number c) ∷ []
  expr_code s n d (Literal i) = op.Static (n + d) (text_object s i) ∷ []
  expr_code s n d (Function f) = op.Entry (n + d) f ∷ []
  expr_code s n d (Read x) = read_code s x (n + d) ∷ []
  expr_code s n d (Array a) = array_code s a (n + d) ∷ []
  expr_code s n d (Load w p) = loaded_code s n d w p
  expr_code s n d (AddressOf w a i) = expr_code s n d a ++ (right_code i (expr_code s n (suc d) i) ++ op.Index (n + d) (n + d) (right_of i (n + suc d)) (width_of w) ∷ [])
  expr_code s n d (Unary o a) = expr_code s n d a ++ prefix_code o (n + d) ∷ []
  expr_code s n d (Binary o a b) = expr_code s n d a ++ (right_code b (expr_code s n (suc d) b) ++ op.Apply (binary_of o) (n + d) (n + d) (right_of b (n + suc d)) ∷ [])
  expr_code s n d (And a b) =
      expr_code s n d a ++ op.SkipUnless compare.Unequal (n + d) (operand.Number 0) (length (expr_code s n d b)) ∷ (expr_code s n d b ++ truth_code (n + d) ∷ [])
  expr_code s n d (Or a b) =
      expr_code s n d a ++ op.SkipUnless compare.Equal (n + d) (operand.Number 0) (length (expr_code s n d b)) ∷ (expr_code s n d b ++ truth_code (n + d) ∷ [])
  expr_code s n d (Conditional c a b) =
      expr_code s n d c ++ op.SkipUnless compare.Unequal (n + d) (operand.Number 0) (length (expr_code s n d a) + 1) ∷ (expr_code s n d a ++ op.Skip (length (expr_code s n d b)) ∷ expr_code s n d b)
  expr_code s n d (Convert to a) = expr_code s n d a ++ convert_code to (n + d)
  expr_code s n d (Advance w a i) = expr_code s n d a ++ (right_code i (expr_code s n (suc d) i) ++ op.Index (n + d) (n + d) (right_of i (n + suc d)) (width_of w) ∷ [])
  expr_code s n d (AdvanceBy w i a) = expr_code s n d i ++ (expr_code s n (suc d) a ++ op.Index (n + d) (n + suc d) (operand.Cell (n + d)) (width_of w) ∷ [])
  expr_code s n d (Retreat w a i) =
      expr_code s n d a ++ (expr_code s n (suc d) i ++ op.Change unary.Negate (n + suc d) (n + suc d) ∷ op.Index (n + d) (n + d) (operand.Cell (n + suc d)) (width_of w) ∷ [])
  expr_code s n d (Assign t x e) = expr_code s n d e ++ (kept_code t (n + d) ++ write_code s x (n + d) ∷ [])
  expr_code s n d (AssignElement w p e) =
      place_code s n d w p ++ (expr_code s n (suc d) e ++ op.Store (n + d) (n + suc d) (width_of w) ∷ cut_code w (n + d) (n + suc d) ∷ [])
  expr_code s n d (Compound o t x e) =
      read_code s x (n + d) ∷ (expr_code s n (suc d) e ++ (negate_code o t (n + suc d) ++ (raise_code o t (n + d) (n + d) (operand.Cell (n + suc d)) ++ write_code s x (n + d) ∷ [])))
  expr_code s n d (CompoundElement o w p e) =
      fetched_code s n d w p ++ (expr_code s n (suc (suc d)) e ++ op.Apply (binary_of o) (n + suc d) (n + suc d) (operand.Cell (n + suc (suc d))) ∷ op.Store (n + d) (n + suc d) (width_of w) ∷ cut_code w (n + d) (n + suc d) ∷ [])
  expr_code s n d (Step v up t x) =
      read_code s x (n + d) ∷ (raise_code (stepping_operator up) t (new_cell v (n + d) (n + suc d)) (n + d) (operand.Number (step_number up t)) ++ write_code s x (new_cell v (n + d) (n + suc d)) ∷ [])
  expr_code s n d (StepElement v up w p) = fetched_code s n d w p ++ step_element_code n d v up w
  expr_code s n d (Kernel k xs) = args_code s n d xs ++ op.Ask (number_of s k) (n + d) (count xs) ∷ []
  expr_code s n d (Call f xs) = args_code s n d xs ++ (arguments_code (fun_at s.program f).params (n + d) ++ op.Go f (n + d) (count xs) ∷ [])

  -- an element that is read, one that is written, and one that is read and then written
  pub loaded_code : Source → ℕ → ℕ → Element → Place → List SlotOp
  loaded_code s n d w (Index a i) =
      expr_code s n d a ++ (right_code i (expr_code s n (suc d) i) ++ op.Index (n + d) (n + d) (right_of i (n + suc d)) (width_of w) ∷ op.Load (n + d) (n + d) (width_of w) ∷ [])
  loaded_code s n d w (Deref a) = expr_code s n d a ++ op.Load (n + d) (n + d) (width_of w) ∷ []

  pub place_code : Source → ℕ → ℕ → Element → Place → List SlotOp
  place_code s n d w (Index a i) = expr_code s n d a ++ (right_code i (expr_code s n (suc d) i) ++ op.Index (n + d) (n + d) (right_of i (n + suc d)) (width_of w) ∷ [])
  place_code s n d w (Deref a) = expr_code s n d a

  pub fetched_code : Source → ℕ → ℕ → Element → Place → List SlotOp
  fetched_code s n d w (Index a i) =
      expr_code s n d a ++ (right_code i (expr_code s n (suc d) i) ++ op.Index (n + d) (n + d) (right_of i (n + suc d)) (width_of w) ∷ op.Load (n + suc d) (n + d) (width_of w) ∷ [])
  fetched_code s n d w (Deref a) = expr_code s n d a ++ op.Load (n + suc d) (n + d) (width_of w) ∷ []

  pub args_code : Source → ℕ → ℕ → Args → List SlotOp
  args_code s n d NoMore = []
  args_code s n d (More e xs) = expr_code s n d e ++ args_code s n (suc d) xs
