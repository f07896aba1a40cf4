-- The funct3 and funct7 of each row that has its opcode with others.
use Rattle.std.specs.Prelude.{ℕ, ◌==◌, ◌&&◌, Bool, true, false, if◌then◌else◌, Option, Some, None, ℤ, pos}
use Rattle.nx_base.specs.declared.operations.AluOp.{AluOp}
use Rattle.nx_base.specs.declared.operations.AluOp.TheVariants as op
use Rattle.nx_base.specs.declared.operations.Cond.{Cond}
use Rattle.nx_base.specs.declared.operations.Cond.TheVariants as cond
use Rattle.nx_rv.specs.declared.inst.Inst.{Inst}
use Rattle.nx_rv.specs.declared.inst.Inst.TheVariants.{Jalr, Branch, Load, Store, OpImm, Op, Fence, Ecall, Ebreak}

-- branches
abbrev pub branch_funct3 : Cond → ℕ
branch_funct3 cond.Eq = 0
branch_funct3 cond.Ne = 1
branch_funct3 cond.Lt = 4
branch_funct3 cond.Ge = 5
branch_funct3 cond.Ltu = 6
branch_funct3 cond.Geu = 7

unfoldable pub branch_of : ℕ → ℕ → ℕ → ℤ → Option Inst
branch_of f3 rs1 rs2 offset =
    if f3 == 0 then Some (Branch cond.Eq rs1 rs2 offset)
    else (if f3 == 1 then Some (Branch cond.Ne rs1 rs2 offset)
    else (if f3 == 4 then Some (Branch cond.Lt rs1 rs2 offset)
    else (if f3 == 5 then Some (Branch cond.Ge rs1 rs2 offset)
    else (if f3 == 6 then Some (Branch cond.Ltu rs1 rs2 offset)
    else (if f3 == 7 then Some (Branch cond.Geu rs1 rs2 offset)
    else None)))))

-- loads, by how many bytes they read and whether the number is signed
abbrev pub load_funct3 : ℕ → Bool → ℕ
load_funct3 width true = if width == 1 then 0 else (if width == 2 then 1 else 2)
load_funct3 width false = if width == 1 then 4 else 5

unfoldable pub load_of : ℕ → ℕ → ℕ → ℤ → Option Inst
load_of f3 rd rs1 imm =
    if f3 == 0 then Some (Load 1 true rd rs1 imm)
    else (if f3 == 1 then Some (Load 2 true rd rs1 imm)
    else (if f3 == 2 then Some (Load 4 true rd rs1 imm)
    else (if f3 == 4 then Some (Load 1 false rd rs1 imm)
    else (if f3 == 5 then Some (Load 2 false rd rs1 imm)
    else None))))

-- stores, by how many bytes they write
abbrev pub store_funct3 : ℕ → ℕ
store_funct3 width = if width == 1 then 0 else (if width == 2 then 1 else 2)

unfoldable pub store_of : ℕ → ℕ → ℕ → ℤ → Option Inst
store_of f3 rs1 rs2 imm =
    if f3 == 0 then Some (Store 1 rs1 rs2 imm)
    else (if f3 == 1 then Some (Store 2 rs1 rs2 imm)
    else (if f3 == 2 then Some (Store 4 rs1 rs2 imm)
    else None))

-- operations
abbrev pub op_funct3 : AluOp → ℕ
op_funct3 op.Add = 0
op_funct3 op.Sub = 0
op_funct3 op.Sll = 1
op_funct3 op.Slt = 2
op_funct3 op.Sltu = 3
op_funct3 op.Xor = 4
op_funct3 op.Srl = 5
op_funct3 op.Sra = 5
op_funct3 op.Or = 6
op_funct3 op.And = 7
op_funct3 op.Mul = 0
op_funct3 op.Mulh = 1
op_funct3 op.Mulhsu = 2
op_funct3 op.Mulhu = 3
op_funct3 op.Div = 4
op_funct3 op.Divu = 5
op_funct3 op.Rem = 6
op_funct3 op.Remu = 7

abbrev pub op_funct7 : AluOp → ℕ
op_funct7 op.Sub = 0x20
op_funct7 op.Sra = 0x20
op_funct7 op.Mul = 0x01
op_funct7 op.Mulh = 0x01
op_funct7 op.Mulhsu = 0x01
op_funct7 op.Mulhu = 0x01
op_funct7 op.Div = 0x01
op_funct7 op.Divu = 0x01
op_funct7 op.Rem = 0x01
op_funct7 op.Remu = 0x01
op_funct7 o = 0x00

abbrev pub is_shift : AluOp → Bool
is_shift op.Sll = true
is_shift op.Srl = true
is_shift op.Sra = true
is_shift o = false

-- with an immediate: rs2 of a shift is how far
unfoldable pub op_imm_of : ℕ → ℕ → ℕ → ℕ → ℕ → ℤ → Option Inst
op_imm_of f3 f7 rd rs1 rs2 imm =
    if f3 == 0 then Some (OpImm op.Add rd rs1 imm)
    else (if f3 == 2 then Some (OpImm op.Slt rd rs1 imm)
    else (if f3 == 3 then Some (OpImm op.Sltu rd rs1 imm)
    else (if f3 == 4 then Some (OpImm op.Xor rd rs1 imm)
    else (if f3 == 6 then Some (OpImm op.Or rd rs1 imm)
    else (if f3 == 7 then Some (OpImm op.And rd rs1 imm)
    else (if f3 == 1 && f7 == 0x00 then Some (OpImm op.Sll rd rs1 (pos rs2))
    else (if f3 == 5 && f7 == 0x00 then Some (OpImm op.Srl rd rs1 (pos rs2))
    else (if f3 == 5 && f7 == 0x20 then Some (OpImm op.Sra rd rs1 (pos rs2))
    else None))))))))

-- with two registers, by their funct7
unfoldable pub base_op_of : ℕ → ℕ → ℕ → ℕ → Option Inst
base_op_of f3 rd rs1 rs2 =
    if f3 == 0 then Some (Op op.Add rd rs1 rs2)
    else (if f3 == 1 then Some (Op op.Sll rd rs1 rs2)
    else (if f3 == 2 then Some (Op op.Slt rd rs1 rs2)
    else (if f3 == 3 then Some (Op op.Sltu rd rs1 rs2)
    else (if f3 == 4 then Some (Op op.Xor rd rs1 rs2)
    else (if f3 == 5 then Some (Op op.Srl rd rs1 rs2)
    else (if f3 == 6 then Some (Op op.Or rd rs1 rs2)
    else (if f3 == 7 then Some (Op op.And rd rs1 rs2)
    else None)))))))

unfoldable pub other_op_of : ℕ → ℕ → ℕ → ℕ → Option Inst
other_op_of f3 rd rs1 rs2 =
    if f3 == 0 then Some (Op op.Sub rd rs1 rs2)
    else (if f3 == 5 then Some (Op op.Sra rd rs1 rs2)
    else None)

unfoldable pub multiply_of : ℕ → ℕ → ℕ → ℕ → Option Inst
multiply_of f3 rd rs1 rs2 =
    if f3 == 0 then Some (Op op.Mul rd rs1 rs2)
    else (if f3 == 1 then Some (Op op.Mulh rd rs1 rs2)
    else (if f3 == 2 then Some (Op op.Mulhsu rd rs1 rs2)
    else (if f3 == 3 then Some (Op op.Mulhu rd rs1 rs2)
    else (if f3 == 4 then Some (Op op.Div rd rs1 rs2)
    else (if f3 == 5 then Some (Op op.Divu rd rs1 rs2)
    else (if f3 == 6 then Some (Op op.Rem rd rs1 rs2)
    else (if f3 == 7 then Some (Op op.Remu rd rs1 rs2)
    else None)))))))

unfoldable pub op_of : ℕ → ℕ → ℕ → ℕ → ℕ → Option Inst
op_of f3 f7 rd rs1 rs2 =
    if f7 == 0x00 then base_op_of f3 rd rs1 rs2
    else (if f7 == 0x20 then other_op_of f3 rd rs1 rs2
    else (if f7 == 0x01 then multiply_of f3 rd rs1 rs2
    else None))

-- those that have one row
unfoldable pub jalr_of : ℕ → ℕ → ℕ → ℤ → Option Inst
jalr_of f3 rd rs1 imm = if f3 == 0 then Some (Jalr rd rs1 imm) else None

unfoldable pub fence_of : ℕ → ℕ → ℕ → ℤ → Option Inst
fence_of f3 rd rs1 imm = if f3 == 0 then Some (Fence rd rs1 imm) else None

-- the two words of opcode 0x73
unfoldable pub system_of : ℕ → Option Inst
system_of w = if w == 0x00000073 then Some Ecall else (if w == 0x00100073 then Some Ebreak else None)
