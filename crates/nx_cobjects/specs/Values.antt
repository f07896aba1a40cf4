-- Values, and what operators make of them.
use Rattle.std.specs.Prelude.{ℕ, ◌%◌, ◌==◌, Bool, true, false, not, int_lt, int_le, Result, Ok, Err}
use Rattle.nx_base.specs.Arithmetic.{signed, flag, alu_of}
use Rattle.nx_base.specs.declared.operations.AluOp.TheVariants as alu
use Rattle.nx_checked.specs.declared.checked.Element.{Element}
use Rattle.nx_checked.specs.declared.checked.Element.TheVariants as element
use Rattle.nx_checked.specs.declared.checked.Scalar.{Scalar}
use Rattle.nx_checked.specs.declared.checked.Scalar.TheVariants as scalar
use Rattle.nx_checked.specs.declared.checked.IntOperator.{IntOperator}
use Rattle.nx_checked.specs.declared.checked.IntOperator.TheVariants.{BitOr, BitXor, BitAnd, Equal, NotEqual, Less, AtMost, Greater, AtLeast, ShiftLeft, ShiftRight, Add, Subtract, Multiply, Divide, Remainder}
use Rattle.nx_cobjects.specs.declared.value.Value.{Value}
use Rattle.nx_cobjects.specs.declared.value.Value.TheVariants.{Int, Point, Forged, Entry}
use Rattle.nx_cobjects.specs.declared.value.WrongKind.{WrongKind}
use Rattle.nx_cobjects.specs.declared.value.WrongKind.TheVariants as wrong

-- What is right goes on, and what is wrong stays so.
infixl 10 ◌>>=◌
abbrev pub ◌>>=◌ : {A B : Type 0} → Result A WrongKind → (A → Result B WrongKind) → Result B WrongKind
(Ok a) >>= go = go a
(Err kind) >>= go = Err kind

-- The number that a value is. It is wrong where a number is wanted and the value is none.
abbrev pub number_in : Value → Result ℕ WrongKind
number_in (Int n) = Ok n
number_in (Point o at) = Err wrong.Bounds
number_in (Forged n) = Err wrong.Bounds
number_in (Entry f) = Err wrong.Bounds

-- The word that a call gets of a value.
abbrev pub word_in : Value → ℕ
word_in (Int n) = n
word_in (Entry n) = n
word_in v = 0

abbrev pub size_of : Element → ℕ
size_of element.Int = 4
size_of element.Char = 1

abbrev pub same_element : Element → Element → Bool
same_element element.Int element.Int = true
same_element element.Char element.Char = true
same_element element.Int element.Char = false
same_element element.Char element.Int = false

-- What a variable keeps of a value that is stored: of a char the low 8 bits of a number.
abbrev pub kept : Scalar → Value → Result Value WrongKind
kept scalar.Int v = Ok v
kept scalar.Char v = do
  n ← number_in v
  Ok (Int (n % 256))
kept (scalar.Pointer w) v = Ok v

-- What an element keeps of a number that is stored.
abbrev pub cut : Element → ℕ → ℕ
cut element.Int n = n
cut element.Char n = n % 256

-- What a variable starts as: the number 0, or the pointer of number 0, which points to nothing.
abbrev pub first_value : Scalar → Value
first_value scalar.Int = Int 0
first_value scalar.Char = Int 0
first_value (scalar.Pointer w) = Forged 0

-- An operator between two numbers of 32 bits. Results wrap, comparisons and `>>` are of signed numbers, and a shift, a
-- division by zero or one that overflows gives what RV32IM gives.
abbrev pub operated : IntOperator → ℕ → ℕ → ℕ
operated BitOr a b = alu_of alu.Or a b
operated BitXor a b = alu_of alu.Xor a b
operated BitAnd a b = alu_of alu.And a b
operated Equal a b = flag (a == b)
operated NotEqual a b = flag (not (a == b))
operated Less a b = flag (int_lt (signed a) (signed b))
operated AtMost a b = flag (int_le (signed a) (signed b))
operated Greater a b = flag (int_lt (signed b) (signed a))
operated AtLeast a b = flag (int_le (signed b) (signed a))
operated ShiftLeft a b = alu_of alu.Sll a b
operated ShiftRight a b = alu_of alu.Sra a b
operated Add a b = alu_of alu.Add a b
operated Subtract a b = alu_of alu.Sub a b
operated Multiply a b = alu_of alu.Mul a b
operated Divide a b = alu_of alu.Div a b
operated Remainder a b = alu_of alu.Rem a b
