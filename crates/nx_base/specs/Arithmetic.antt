-- What an operation on two words gives, and when a branch is taken. RISC-V Unprivileged ISA, RV32I 2.1 sections 2.4 and 2.5, M 2.0.
use Rattle.std.specs.Prelude.{ℕ, ◌+◌, ◌-◌, ◌*◌, ◌/◌, ◌%◌, ◌^◌, ◌==◌, nat_lt, nat_le, Bool, not, if◌then◌else◌, bit_and, bit_or, bit_xor, ℤ, pos, ◌*ℤ◌, int_lt, int_le, int_div, int_rem}
use Rattle.std.specs.Int.{w32, w64, cast_signed, cast_unsigned, int_shr}
use Rattle.nx_base.specs.declared.operations.AluOp.{AluOp}
use Rattle.nx_base.specs.declared.operations.AluOp.TheVariants.{Add, Sub, Sll, Slt, Sltu, Xor, Srl, Sra, Or, And, Mul, Mulh, Mulhsu, Mulhu, Div, Divu, Rem, Remu}
use Rattle.nx_base.specs.declared.operations.Cond.{Cond}
use Rattle.nx_base.specs.declared.operations.Cond.TheVariants.{Eq, Ne, Lt, Ge, Ltu, Geu}

-- the signed number of a word, and the word of a signed number
abbrev pub signed : ℕ → ℤ
signed n = cast_signed w32 n

abbrev pub word_of : ℤ → ℕ
word_of z = cast_unsigned w32 z

-- the upper 32 of the 64 bits of a signed product
abbrev pub upper_of : ℤ → ℕ
upper_of z = cast_unsigned w64 z / 2 ^ 32

-- 1 for a test that holds
abbrev pub flag : Bool → ℕ
flag b = if b then 1 else 0

-- an operation on two words: shifts use the low five bits of the second; a division by zero gives
-- all ones, and the dividend as its remainder; the quotient that overflows wraps to the dividend
unfoldable pub alu_of : AluOp → ℕ → ℕ → ℕ
alu_of Add a b = (a + b) % 2 ^ 32
alu_of Sub a b = (a + (2 ^ 32 - b)) % 2 ^ 32
alu_of Sll a b = (a * 2 ^ (b % 32)) % 2 ^ 32
alu_of Slt a b = flag (int_lt (signed a) (signed b))
alu_of Sltu a b = flag (nat_lt a b)
alu_of Xor a b = bit_xor a b
alu_of Srl a b = a / 2 ^ (b % 32)
alu_of Sra a b = word_of (int_shr (signed a) (b % 32))
alu_of Or a b = bit_or a b
alu_of And a b = bit_and a b
alu_of Mul a b = (a * b) % 2 ^ 32
alu_of Mulh a b = upper_of (signed a *ℤ signed b)
alu_of Mulhsu a b = upper_of (signed a *ℤ pos b)
alu_of Mulhu a b = a * b / 2 ^ 32
alu_of Div a b = if b == 0 then 2 ^ 32 - 1 else word_of (int_div (signed a) (signed b))
alu_of Divu a b = if b == 0 then 2 ^ 32 - 1 else a / b
alu_of Rem a b = if b == 0 then a else word_of (int_rem (signed a) (signed b))
alu_of Remu a b = if b == 0 then a else a % b

-- whether a branch on two words is taken
unfoldable pub taken_of : Cond → ℕ → ℕ → Bool
taken_of Eq a b = a == b
taken_of Ne a b = not (a == b)
taken_of Lt a b = int_lt (signed a) (signed b)
taken_of Ge a b = int_le (signed b) (signed a)
taken_of Ltu a b = nat_lt a b
taken_of Geu a b = nat_le b a
