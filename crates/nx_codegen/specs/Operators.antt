-- Instructions of operators and comparisons.
use Rattle.std.specs.Prelude.{ℕ, ◌+◌, ◌-◌, ◌*◌, ◌%◌, ◌^◌, ◌==◌, Bool, true, false, if◌then◌else◌, List, [], ◌∷◌, ◌++◌, ℤ, pos}
use Rattle.nx_base.specs.declared.operations.AluOp.{AluOp}
use Rattle.nx_base.specs.declared.operations.AluOp.TheVariants as alu
use Rattle.nx_base.specs.declared.operations.Cond.TheVariants as cond
use Rattle.nx_rv.specs.declared.inst.Inst.{Inst}
use Rattle.nx_rv.specs.declared.inst.Inst.TheVariants.{Auipc, Jal, Jalr, Branch, Load, Store, OpImm, Op}
use Rattle.nx_slot.specs.declared.op.Comparison.{Comparison}
use Rattle.nx_slot.specs.declared.op.Comparison.TheVariants.{Equal, Unequal, Less, AtMost, Greater, AtLeast}
use Rattle.nx_slot.specs.declared.op.Binary.{Binary}
use Rattle.nx_slot.specs.declared.op.Binary.TheVariants.{Add, Subtract, Multiply, Divide, Remainder, And, Or, Xor, ShiftLeft, ShiftRight, Compare}
use Rattle.nx_slot.specs.declared.op.Unary.{Unary}
use Rattle.nx_slot.specs.declared.op.Unary.TheVariants.{Negate, LowByte}
use Rattle.nx_slot.specs.declared.op.Operand.{Operand}
use Rattle.nx_slot.specs.declared.op.Operand.TheVariants.{Cell, Number}
use Rattle.nx_slot.specs.declared.op.Width.{Width}
use Rattle.nx_slot.specs.declared.op.Width.TheVariants.{Byte, Word}
use Rattle.nx_slot.specs.declared.program.SlotFunction.{SlotFunction}
use Rattle.nx_slot.specs.Objects.{bytes_of}
use Rattle.nx_codegen.specs.Addresses.{upper, lower, from_to, distance}
use Rattle.nx_codegen.specs.Moves.{number_code, get_code, source, set_code, target}

-- A comparison of two registers, as 1 or 0 in a third.
abbrev pub compare_code : Comparison → ℕ → ℕ → ℕ → List Inst
compare_code Equal rd a b = Op alu.Sub rd a b ∷ OpImm alu.Sltu rd rd (pos 1) ∷ []
compare_code Unequal rd a b = Op alu.Sub rd a b ∷ Op alu.Sltu rd 0 rd ∷ []
compare_code Less rd a b = Op alu.Slt rd a b ∷ []
compare_code AtMost rd a b = Op alu.Slt rd b a ∷ OpImm alu.Xor rd rd (pos 1) ∷ []
compare_code Greater rd a b = Op alu.Slt rd b a ∷ []
compare_code AtLeast rd a b = Op alu.Slt rd a b ∷ OpImm alu.Xor rd rd (pos 1) ∷ []

abbrev pub binary_code : Binary → ℕ → ℕ → ℕ → List Inst
binary_code Add rd a b = Op alu.Add rd a b ∷ []
binary_code Subtract rd a b = Op alu.Sub rd a b ∷ []
binary_code Multiply rd a b = Op alu.Mul rd a b ∷ []
binary_code Divide rd a b = Op alu.Div rd a b ∷ []
binary_code Remainder rd a b = Op alu.Rem rd a b ∷ []
binary_code And rd a b = Op alu.And rd a b ∷ []
binary_code Or rd a b = Op alu.Or rd a b ∷ []
binary_code Xor rd a b = Op alu.Xor rd a b ∷ []
binary_code ShiftLeft rd a b = Op alu.Sll rd a b ∷ []
binary_code ShiftRight rd a b = Op alu.Sra rd a b ∷ []
binary_code (Compare c) rd a b = compare_code c rd a b

-- The operation whose immediate is a signed number of 12 bits, where the number is one.
unfoldable pub short_code : AluOp → ℕ → ℕ → ℕ → List Inst
short_code op rd a n = if upper n == 0 then OpImm op rd a (lower n) ∷ [] else number_code 6 n ++ Op op rd a 6 ∷ []

-- What is made of a register and a number. A difference is the sum with the number's negation.
abbrev pub constant_code : Binary → ℕ → ℕ → ℕ → List Inst
constant_code Add rd a n = short_code alu.Add rd a n
constant_code Subtract rd a n = short_code alu.Add rd a ((2 ^ 32 - n) % 2 ^ 32)
constant_code And rd a n = short_code alu.And rd a n
constant_code Or rd a n = short_code alu.Or rd a n
constant_code Xor rd a n = short_code alu.Xor rd a n
constant_code ShiftLeft rd a n = OpImm alu.Sll rd a (pos (n % 32)) ∷ []
constant_code ShiftRight rd a n = OpImm alu.Sra rd a (pos (n % 32)) ∷ []
constant_code (Compare Less) rd a n = short_code alu.Slt rd a n
constant_code (Compare Equal) rd a n = short_code alu.Xor rd a n ++ OpImm alu.Sltu rd rd (pos 1) ∷ []
constant_code (Compare Unequal) rd a n = short_code alu.Xor rd a n ++ Op alu.Sltu rd 0 rd ∷ []
constant_code (Compare AtLeast) rd a n = short_code alu.Slt rd a n ++ OpImm alu.Xor rd rd (pos 1) ∷ []
constant_code op rd a n = number_code 6 n ++ binary_code op rd a 6

-- An operation on a cell and an operand.
abbrev pub applied_code : SlotFunction → Binary → ℕ → ℕ → Operand → List Inst
applied_code g op to left (Cell right) = get_code g 5 left ++ (get_code g 6 right ++ (binary_code op (target g to) (source g 5 left) (source g 6 right) ++ set_code g to))
applied_code g op to left (Number n) = get_code g 5 left ++ (constant_code op (target g to) (source g 5 left) n ++ set_code g to)

abbrev pub unary_code : Unary → ℕ → ℕ → List Inst
unary_code Negate rd a = Op alu.Sub rd 0 a ∷ []
unary_code LowByte rd a = OpImm alu.And rd a (pos 255) ∷ []

abbrev pub changed_code : SlotFunction → Unary → ℕ → ℕ → List Inst
changed_code g op to from = get_code g 5 from ++ (unary_code op (target g to) (source g 5 from) ++ set_code g to)

-- A pointer is moved up by as many elements as a register says.
abbrev pub scaled_code : Width → ℕ → ℕ → ℕ → List Inst
scaled_code Byte rd a b = Op alu.Add rd a b ∷ []
scaled_code Word rd a b = OpImm alu.Sll 6 b (pos 2) ∷ Op alu.Add rd a 6 ∷ []

abbrev pub indexed_code : SlotFunction → ℕ → ℕ → Operand → Width → List Inst
indexed_code g to base (Cell index) w = get_code g 5 base ++ (get_code g 6 index ++ (scaled_code w (target g to) (source g 5 base) (source g 6 index) ++ set_code g to))
indexed_code g to base (Number n) w = get_code g 5 base ++ (short_code alu.Add (target g to) (source g 5 base) (bytes_of w * n % 2 ^ 32) ++ set_code g to)

-- A load and a store of an element.
abbrev pub load_of : Width → ℕ → ℕ → Inst
load_of Byte rd a = Load 1 false rd a (pos 0)
load_of Word rd a = Load 4 true rd a (pos 0)

abbrev pub loaded_code : SlotFunction → ℕ → ℕ → Width → List Inst
loaded_code g to place w = get_code g 5 place ++ (load_of w (target g to) (source g 5 place) ∷ set_code g to)

abbrev pub stored_code : SlotFunction → ℕ → ℕ → Width → List Inst
stored_code g place value w = get_code g 5 place ++ (get_code g 6 value ++ Store (bytes_of w) (source g 5 place) (source g 6 value) (pos 0) ∷ [])

-- A jump, in code that a branch reaches from end to end, or in longer code.
unfoldable pub jump_code : Bool → ℕ → ℕ → List Inst
jump_code near here there =
    if near then Jal 0 (from_to here there) ∷ []
    else Auipc 5 (upper (distance here there)) ∷ Jalr 0 5 (lower (distance here there)) ∷ []

-- A branch where a comparison of two registers holds, and one where it doesn't.
abbrev pub branch_if : Comparison → ℕ → ℕ → ℤ → Inst
branch_if Equal a b way = Branch cond.Eq a b way
branch_if Unequal a b way = Branch cond.Ne a b way
branch_if Less a b way = Branch cond.Lt a b way
branch_if AtMost a b way = Branch cond.Ge b a way
branch_if Greater a b way = Branch cond.Lt b a way
branch_if AtLeast a b way = Branch cond.Ge a b way

abbrev pub branch_unless : Comparison → ℕ → ℕ → ℤ → Inst
branch_unless Equal a b way = Branch cond.Ne a b way
branch_unless Unequal a b way = Branch cond.Eq a b way
branch_unless Less a b way = Branch cond.Ge a b way
branch_unless AtMost a b way = Branch cond.Lt b a way
branch_unless Greater a b way = Branch cond.Ge b a way
branch_unless AtLeast a b way = Branch cond.Lt a b way

-- A jump where the comparison doesn't hold. In long code the other case goes around it.
unfoldable pub skip_code : Bool → Comparison → ℕ → ℕ → ℕ → ℕ → List Inst
skip_code near test a b here there =
    if near then branch_unless test a b (from_to here there) ∷ []
    else branch_if test a b (pos 12) ∷ jump_code false (here + 4) there

-- What the right side of a test needs, and where it then is. 0 is in register 0.
unfoldable pub right_code : SlotFunction → Operand → List Inst
right_code g (Cell i) = get_code g 6 i
right_code g (Number n) = if n == 0 then [] else number_code 6 n

unfoldable pub right_source : SlotFunction → Operand → ℕ
right_source g (Cell i) = source g 6 i
right_source g (Number n) = if n == 0 then 0 else 6
