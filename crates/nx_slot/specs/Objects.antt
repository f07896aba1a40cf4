-- Values and objects of slot code, and what operators make of numbers.
use Rattle.std.specs.Prelude.{ℕ, ◌+◌, ◌*◌, ◌%◌, ◌^◌, ◌==◌, Bool, true, false, not, ◌&&◌, nat_le, int_lt, int_le, if◌then◌else◌, List, [], length, Option, Some, None, get_or, slice_index, slice_set}
use Rattle.nx_base.specs.Arithmetic.{alu_of, flag, signed}
use Rattle.nx_base.specs.ByteLists.{get_bytes, put_bytes, from_le, to_le}
use Rattle.nx_base.specs.declared.operations.AluOp.TheVariants as alu
use Rattle.nx_slot.specs.declared.op.Comparison.{Comparison}
use Rattle.nx_slot.specs.declared.op.Comparison.TheVariants.{Equal, Unequal, Less, AtMost, Greater, AtLeast}
use Rattle.nx_slot.specs.declared.op.Binary.{Binary}
use Rattle.nx_slot.specs.declared.op.Binary.TheVariants.{Add, Subtract, Multiply, Divide, Remainder, And, Or, Xor, ShiftLeft, ShiftRight, Compare}
use Rattle.nx_slot.specs.declared.op.Unary.{Unary}
use Rattle.nx_slot.specs.declared.op.Unary.TheVariants.{Negate, LowByte}
use Rattle.nx_slot.specs.declared.op.Width.{Width}
use Rattle.nx_slot.specs.declared.op.Width.TheVariants.{Byte, Word}

-- A number of 32 bits, a pointer to an element of an object, a pointer that points to nothing, or a function.
pub data Value : Type 0 where
  Int : (n : ℕ) → Value
  Pointer : (object place : ℕ) → Value
  Forged : (n : ℕ) → Value
  Entry : (function : ℕ) → Value

-- Bytes, what they are elements of, and whether they stay as they are. An object that is over has no bytes.
pub record Object : Type 0 where
  pub bytes : List ℕ
  pub width : Width
  pub fixed : Bool

abbrev pub no_object : Object
no_object = record { bytes = []; width = Byte; fixed = true }

-- An object's name is its place among all objects.
unfoldable pub object_of : List Object → ℕ → Object
object_of os o = get_or os o no_object

abbrev pub bytes_of : Width → ℕ
bytes_of Byte = 1
bytes_of Word = 4

abbrev pub same_width : Width → Width → Bool
same_width Byte Byte = true
same_width Word Word = true
same_width Byte Word = false
same_width Word Byte = false

-- An element lies in an object of such elements.
unfoldable pub has_element : Object → Width → ℕ → Bool
has_element o w at = same_width o.width w && nat_le (bytes_of w * (at + 1)) (length o.bytes)

-- The number of an element.
unfoldable pub element : Width → Object → ℕ → ℕ
element Word o at = from_le (get_bytes o.bytes (4 * at) 4)
element Byte o at = slice_index o.bytes at

abbrev pub with_number : Width → List ℕ → ℕ → ℕ → List ℕ
with_number Word bytes at n = put_bytes bytes (4 * at) (to_le 4 n)
with_number Byte bytes at n = slice_set bytes at (n % 256)

-- An object with an element changed.
unfoldable pub with_element : Width → Object → ℕ → ℕ → Object
with_element w o at n = record o { bytes = with_number w o.bytes at n }

-- An object that is over.
abbrev pub ended : Object → Object
ended o = record o { bytes = [] }

-- A pointer that is moved up by n elements of a width, if its object has such. A place wraps as a number does.
abbrev pub moved : List Object → Width → Value → ℕ → Option Value
moved os w (Int k) n = None
moved os w (Entry f) n = None
moved os w (Pointer o at) n = if same_width (object_of os o).width w then Some (Pointer o ((at + n) % 2 ^ 32)) else None
moved os w (Forged k) n = Some (Forged ((k + bytes_of w * n) % 2 ^ 32))

-- Whether a comparison of two numbers holds.
unfoldable pub holds : Comparison → ℕ → ℕ → Bool
holds Equal a b = a == b
holds Unequal a b = not (a == b)
holds Less a b = int_lt (signed a) (signed b)
holds AtMost a b = int_le (signed a) (signed b)
holds Greater a b = int_lt (signed b) (signed a)
holds AtLeast a b = int_le (signed b) (signed a)

unfoldable pub binary : Binary → ℕ → ℕ → ℕ
binary Add a b = alu_of alu.Add a b
binary Subtract a b = alu_of alu.Sub a b
binary Multiply a b = alu_of alu.Mul a b
binary Divide a b = alu_of alu.Div a b
binary Remainder a b = alu_of alu.Rem a b
binary And a b = alu_of alu.And a b
binary Or a b = alu_of alu.Or a b
binary Xor a b = alu_of alu.Xor a b
binary ShiftLeft a b = alu_of alu.Sll a b
binary ShiftRight a b = alu_of alu.Sra a b
binary (Compare c) a b = flag (holds c a b)

unfoldable pub unary : Unary → ℕ → ℕ
unary Negate a = alu_of alu.Sub 0 a
unary LowByte a = a % 256
