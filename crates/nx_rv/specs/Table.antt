-- The instruction table: the word of each instruction, a row each, in the manual's order.
use Rattle.std.specs.Prelude.{◌≡◌, ℕ, ◌*◌, ◌/◌, ◌%◌, ◌^◌, ◌<◌, ◌==◌, ◌⊎◌, Bool, true, false, if◌then◌else◌, Option, Some, None, ℤ, pos, negsuc}
use Rattle.std.specs.Int.{w32, cast_unsigned}
use Rattle.nx_base.specs.declared.operations.AluOp.{AluOp}
use Rattle.nx_base.specs.declared.operations.AluOp.TheVariants as op
use Rattle.nx_base.specs.declared.operations.Cond.TheVariants as cond
use Rattle.nx_rv.specs.declared.inst.Inst.{Inst}
use Rattle.nx_rv.specs.declared.inst.Inst.TheVariants.{Lui, Auipc, Jal, Jalr, Branch, Load, Store, OpImm, Op, Fence, Ecall, Ebreak}
use Rattle.nx_rv.specs.Formats.{opcode, rd_of, funct3, rs1_of, rs2_of, funct7, imm_i, imm_s, imm_b, imm_u, imm_j, pack, pack_i, pack_s, pack_b, pack_u, pack_j, low_bits, IsWithin}
use Rattle.nx_rv.specs.Codes.{branch_funct3, branch_of, load_funct3, load_of, store_funct3, store_of, op_funct3, op_funct7, is_shift, op_imm_of, op_of, jalr_of, fence_of, system_of}

-- fields that fit their format
abbrev pub FitsR : ℕ → ℕ → ℕ → Type 0
FitsR rd rs1 rs2 = (rd < 32) × (rs1 < 32) × (rs2 < 32)

abbrev pub FitsI : ℕ → ℕ → ℤ → Type 0
FitsI rd rs1 imm = (rd < 32) × (rs1 < 32) × IsWithin 2048 imm

abbrev pub FitsS : ℕ → ℕ → ℤ → Type 0
FitsS rs1 rs2 imm = (rs1 < 32) × (rs2 < 32) × IsWithin 2048 imm

abbrev pub FitsB : ℕ → ℕ → ℤ → Type 0
FitsB rs1 rs2 offset = (rs1 < 32) × (rs2 < 32) × IsWithin 4096 offset × (cast_unsigned w32 offset % 2 ≡ 0)

abbrev pub FitsU : ℕ → ℕ → Type 0
FitsU rd imm = (rd < 32) × (imm < 2 ^ 32) × (imm % 4096 ≡ 0)

abbrev pub FitsJ : ℕ → ℤ → Type 0
FitsJ rd offset = (rd < 32) × IsWithin 1048576 offset × (cast_unsigned w32 offset % 2 ≡ 0)

-- from 0 to 31
abbrev pub HasFiveBits : ℤ → Type 0
HasFiveBits (pos n) = n < 32
HasFiveBits (negsuc n) = ⊥

abbrev pub FitsShift : ℕ → ℕ → ℤ → Type 0
FitsShift rd rs1 imm = (rd < 32) × (rs1 < 32) × HasFiveBits imm

-- a word is an instruction's, whose fields are in range
pub data Row : ℕ → Inst → Type 0 where
  LUI : (rd imm : ℕ) → FitsU rd imm → Row (pack_u 0x37 rd imm) (Lui rd imm)
  AUIPC : (rd imm : ℕ) → FitsU rd imm → Row (pack_u 0x17 rd imm) (Auipc rd imm)
  JAL : (rd : ℕ) (offset : ℤ) → FitsJ rd offset → Row (pack_j 0x6F rd (low_bits 2097152 offset)) (Jal rd offset)
  JALR : (rd rs1 : ℕ) (imm : ℤ) → FitsI rd rs1 imm → Row (pack_i 0x67 rd 0 rs1 (low_bits 4096 imm)) (Jalr rd rs1 imm)
  BEQ : (rs1 rs2 : ℕ) (offset : ℤ) → FitsB rs1 rs2 offset → Row (pack_b 0x63 0 rs1 rs2 (low_bits 8192 offset)) (Branch cond.Eq rs1 rs2 offset)
  BNE : (rs1 rs2 : ℕ) (offset : ℤ) → FitsB rs1 rs2 offset → Row (pack_b 0x63 1 rs1 rs2 (low_bits 8192 offset)) (Branch cond.Ne rs1 rs2 offset)
  BLT : (rs1 rs2 : ℕ) (offset : ℤ) → FitsB rs1 rs2 offset → Row (pack_b 0x63 4 rs1 rs2 (low_bits 8192 offset)) (Branch cond.Lt rs1 rs2 offset)
  BGE : (rs1 rs2 : ℕ) (offset : ℤ) → FitsB rs1 rs2 offset → Row (pack_b 0x63 5 rs1 rs2 (low_bits 8192 offset)) (Branch cond.Ge rs1 rs2 offset)
  BLTU : (rs1 rs2 : ℕ) (offset : ℤ) → FitsB rs1 rs2 offset → Row (pack_b 0x63 6 rs1 rs2 (low_bits 8192 offset)) (Branch cond.Ltu rs1 rs2 offset)
  BGEU : (rs1 rs2 : ℕ) (offset : ℤ) → FitsB rs1 rs2 offset → Row (pack_b 0x63 7 rs1 rs2 (low_bits 8192 offset)) (Branch cond.Geu rs1 rs2 offset)
  LB : (rd rs1 : ℕ) (imm : ℤ) → FitsI rd rs1 imm → Row (pack_i 0x03 rd 0 rs1 (low_bits 4096 imm)) (Load 1 true rd rs1 imm)
  LH : (rd rs1 : ℕ) (imm : ℤ) → FitsI rd rs1 imm → Row (pack_i 0x03 rd 1 rs1 (low_bits 4096 imm)) (Load 2 true rd rs1 imm)
  LW : (rd rs1 : ℕ) (imm : ℤ) → FitsI rd rs1 imm → Row (pack_i 0x03 rd 2 rs1 (low_bits 4096 imm)) (Load 4 true rd rs1 imm)
  LBU : (rd rs1 : ℕ) (imm : ℤ) → FitsI rd rs1 imm → Row (pack_i 0x03 rd 4 rs1 (low_bits 4096 imm)) (Load 1 false rd rs1 imm)
  LHU : (rd rs1 : ℕ) (imm : ℤ) → FitsI rd rs1 imm → Row (pack_i 0x03 rd 5 rs1 (low_bits 4096 imm)) (Load 2 false rd rs1 imm)
  SB : (rs1 rs2 : ℕ) (imm : ℤ) → FitsS rs1 rs2 imm → Row (pack_s 0x23 0 rs1 rs2 (low_bits 4096 imm)) (Store 1 rs1 rs2 imm)
  SH : (rs1 rs2 : ℕ) (imm : ℤ) → FitsS rs1 rs2 imm → Row (pack_s 0x23 1 rs1 rs2 (low_bits 4096 imm)) (Store 2 rs1 rs2 imm)
  SW : (rs1 rs2 : ℕ) (imm : ℤ) → FitsS rs1 rs2 imm → Row (pack_s 0x23 2 rs1 rs2 (low_bits 4096 imm)) (Store 4 rs1 rs2 imm)
  ADDI : (rd rs1 : ℕ) (imm : ℤ) → FitsI rd rs1 imm → Row (pack_i 0x13 rd 0 rs1 (low_bits 4096 imm)) (OpImm op.Add rd rs1 imm)
  SLTI : (rd rs1 : ℕ) (imm : ℤ) → FitsI rd rs1 imm → Row (pack_i 0x13 rd 2 rs1 (low_bits 4096 imm)) (OpImm op.Slt rd rs1 imm)
  SLTIU : (rd rs1 : ℕ) (imm : ℤ) → FitsI rd rs1 imm → Row (pack_i 0x13 rd 3 rs1 (low_bits 4096 imm)) (OpImm op.Sltu rd rs1 imm)
  XORI : (rd rs1 : ℕ) (imm : ℤ) → FitsI rd rs1 imm → Row (pack_i 0x13 rd 4 rs1 (low_bits 4096 imm)) (OpImm op.Xor rd rs1 imm)
  ORI : (rd rs1 : ℕ) (imm : ℤ) → FitsI rd rs1 imm → Row (pack_i 0x13 rd 6 rs1 (low_bits 4096 imm)) (OpImm op.Or rd rs1 imm)
  ANDI : (rd rs1 : ℕ) (imm : ℤ) → FitsI rd rs1 imm → Row (pack_i 0x13 rd 7 rs1 (low_bits 4096 imm)) (OpImm op.And rd rs1 imm)
  SLLI : (rd rs1 : ℕ) (imm : ℤ) → FitsShift rd rs1 imm → Row (pack 0x13 rd 1 rs1 (low_bits 32 imm) 0x00) (OpImm op.Sll rd rs1 imm)
  SRLI : (rd rs1 : ℕ) (imm : ℤ) → FitsShift rd rs1 imm → Row (pack 0x13 rd 5 rs1 (low_bits 32 imm) 0x00) (OpImm op.Srl rd rs1 imm)
  SRAI : (rd rs1 : ℕ) (imm : ℤ) → FitsShift rd rs1 imm → Row (pack 0x13 rd 5 rs1 (low_bits 32 imm) 0x20) (OpImm op.Sra rd rs1 imm)
  ADD : (rd rs1 rs2 : ℕ) → FitsR rd rs1 rs2 → Row (pack 0x33 rd 0 rs1 rs2 0x00) (Op op.Add rd rs1 rs2)
  SUB : (rd rs1 rs2 : ℕ) → FitsR rd rs1 rs2 → Row (pack 0x33 rd 0 rs1 rs2 0x20) (Op op.Sub rd rs1 rs2)
  SLL : (rd rs1 rs2 : ℕ) → FitsR rd rs1 rs2 → Row (pack 0x33 rd 1 rs1 rs2 0x00) (Op op.Sll rd rs1 rs2)
  SLT : (rd rs1 rs2 : ℕ) → FitsR rd rs1 rs2 → Row (pack 0x33 rd 2 rs1 rs2 0x00) (Op op.Slt rd rs1 rs2)
  SLTU : (rd rs1 rs2 : ℕ) → FitsR rd rs1 rs2 → Row (pack 0x33 rd 3 rs1 rs2 0x00) (Op op.Sltu rd rs1 rs2)
  XOR : (rd rs1 rs2 : ℕ) → FitsR rd rs1 rs2 → Row (pack 0x33 rd 4 rs1 rs2 0x00) (Op op.Xor rd rs1 rs2)
  SRL : (rd rs1 rs2 : ℕ) → FitsR rd rs1 rs2 → Row (pack 0x33 rd 5 rs1 rs2 0x00) (Op op.Srl rd rs1 rs2)
  SRA : (rd rs1 rs2 : ℕ) → FitsR rd rs1 rs2 → Row (pack 0x33 rd 5 rs1 rs2 0x20) (Op op.Sra rd rs1 rs2)
  OR : (rd rs1 rs2 : ℕ) → FitsR rd rs1 rs2 → Row (pack 0x33 rd 6 rs1 rs2 0x00) (Op op.Or rd rs1 rs2)
  AND : (rd rs1 rs2 : ℕ) → FitsR rd rs1 rs2 → Row (pack 0x33 rd 7 rs1 rs2 0x00) (Op op.And rd rs1 rs2)
  FENCE : (rd rs1 : ℕ) (imm : ℤ) → FitsI rd rs1 imm → Row (pack_i 0x0F rd 0 rs1 (low_bits 4096 imm)) (Fence rd rs1 imm)
  ECALL : Row 0x00000073 Ecall
  EBREAK : Row 0x00100073 Ebreak
  MUL : (rd rs1 rs2 : ℕ) → FitsR rd rs1 rs2 → Row (pack 0x33 rd 0 rs1 rs2 0x01) (Op op.Mul rd rs1 rs2)
  MULH : (rd rs1 rs2 : ℕ) → FitsR rd rs1 rs2 → Row (pack 0x33 rd 1 rs1 rs2 0x01) (Op op.Mulh rd rs1 rs2)
  MULHSU : (rd rs1 rs2 : ℕ) → FitsR rd rs1 rs2 → Row (pack 0x33 rd 2 rs1 rs2 0x01) (Op op.Mulhsu rd rs1 rs2)
  MULHU : (rd rs1 rs2 : ℕ) → FitsR rd rs1 rs2 → Row (pack 0x33 rd 3 rs1 rs2 0x01) (Op op.Mulhu rd rs1 rs2)
  DIV : (rd rs1 rs2 : ℕ) → FitsR rd rs1 rs2 → Row (pack 0x33 rd 4 rs1 rs2 0x01) (Op op.Div rd rs1 rs2)
  DIVU : (rd rs1 rs2 : ℕ) → FitsR rd rs1 rs2 → Row (pack 0x33 rd 5 rs1 rs2 0x01) (Op op.Divu rd rs1 rs2)
  REM : (rd rs1 rs2 : ℕ) → FitsR rd rs1 rs2 → Row (pack 0x33 rd 6 rs1 rs2 0x01) (Op op.Rem rd rs1 rs2)
  REMU : (rd rs1 rs2 : ℕ) → FitsR rd rs1 rs2 → Row (pack 0x33 rd 7 rs1 rs2 0x01) (Op op.Remu rd rs1 rs2)

-- the operations that have an immediate, and theirs
abbrev pub FitsOpImm : AluOp → ℕ → ℕ → ℤ → Type 0
FitsOpImm op.Add rd rs1 imm = FitsI rd rs1 imm
FitsOpImm op.Slt rd rs1 imm = FitsI rd rs1 imm
FitsOpImm op.Sltu rd rs1 imm = FitsI rd rs1 imm
FitsOpImm op.Xor rd rs1 imm = FitsI rd rs1 imm
FitsOpImm op.Or rd rs1 imm = FitsI rd rs1 imm
FitsOpImm op.And rd rs1 imm = FitsI rd rs1 imm
FitsOpImm op.Sll rd rs1 imm = FitsShift rd rs1 imm
FitsOpImm op.Srl rd rs1 imm = FitsShift rd rs1 imm
FitsOpImm op.Sra rd rs1 imm = FitsShift rd rs1 imm
FitsOpImm o rd rs1 imm = ⊥

-- what a load reads, and a store writes, in bytes
abbrev pub IsLoad : ℕ → Bool → Type 0
IsLoad width true = (width ≡ 1) ⊎ (width ≡ 2) ⊎ (width ≡ 4)
IsLoad width false = (width ≡ 1) ⊎ (width ≡ 2)

abbrev pub IsStore : ℕ → Type 0
IsStore width = (width ≡ 1) ⊎ (width ≡ 2) ⊎ (width ≡ 4)

-- the fields of an instruction are in range
abbrev pub IsInRange : Inst → Type 0
IsInRange (Lui rd imm) = FitsU rd imm
IsInRange (Auipc rd imm) = FitsU rd imm
IsInRange (Jal rd offset) = FitsJ rd offset
IsInRange (Jalr rd rs1 imm) = FitsI rd rs1 imm
IsInRange (Branch c rs1 rs2 offset) = FitsB rs1 rs2 offset
IsInRange (Load width signed rd rs1 imm) = IsLoad width signed × FitsI rd rs1 imm
IsInRange (Store width rs1 rs2 imm) = IsStore width × FitsS rs1 rs2 imm
IsInRange (OpImm o rd rs1 imm) = FitsOpImm o rd rs1 imm
IsInRange (Op o rd rs1 rs2) = FitsR rd rs1 rs2
IsInRange (Fence rd rs1 imm) = FitsI rd rs1 imm
IsInRange Ecall = Unit {0}
IsInRange Ebreak = Unit {0}

-- the word of an operation with an immediate
unfoldable pub op_imm_word : AluOp → ℕ → ℕ → ℤ → ℕ
op_imm_word o rd rs1 imm =
    if is_shift o then pack 0x13 rd (op_funct3 o) rs1 (low_bits 32 imm) (op_funct7 o)
    else pack_i 0x13 rd (op_funct3 o) rs1 (low_bits 4096 imm)

-- the word of an instruction whose fields are in range
unfoldable pub table_word : Inst → ℕ
table_word (Lui rd imm) = pack_u 0x37 rd imm
table_word (Auipc rd imm) = pack_u 0x17 rd imm
table_word (Jal rd offset) = pack_j 0x6F rd (low_bits 2097152 offset)
table_word (Jalr rd rs1 imm) = pack_i 0x67 rd 0 rs1 (low_bits 4096 imm)
table_word (Branch c rs1 rs2 offset) = pack_b 0x63 (branch_funct3 c) rs1 rs2 (low_bits 8192 offset)
table_word (Load width signed rd rs1 imm) = pack_i 0x03 rd (load_funct3 width signed) rs1 (low_bits 4096 imm)
table_word (Store width rs1 rs2 imm) = pack_s 0x23 (store_funct3 width) rs1 rs2 (low_bits 4096 imm)
table_word (OpImm o rd rs1 imm) = op_imm_word o rd rs1 imm
table_word (Op o rd rs1 rs2) = pack 0x33 rd (op_funct3 o) rs1 rs2 (op_funct7 o)
table_word (Fence rd rs1 imm) = pack_i 0x0F rd 0 rs1 (low_bits 4096 imm)
table_word Ecall = 0x00000073
table_word Ebreak = 0x00100073

-- an instruction whose registers have five bits, and whose immediate of format U has its lowest 12 bits 0
unfoldable pub masked : Inst → Inst
masked (Lui rd imm) = Lui (rd % 32) (imm / 4096 * 4096)
masked (Auipc rd imm) = Auipc (rd % 32) (imm / 4096 * 4096)
masked (Jal rd offset) = Jal (rd % 32) offset
masked (Jalr rd rs1 imm) = Jalr (rd % 32) (rs1 % 32) imm
masked (Branch c rs1 rs2 offset) = Branch c (rs1 % 32) (rs2 % 32) offset
masked (Load width signed rd rs1 imm) = Load width signed (rd % 32) (rs1 % 32) imm
masked (Store width rs1 rs2 imm) = Store width (rs1 % 32) (rs2 % 32) imm
masked (OpImm o rd rs1 imm) = OpImm o (rd % 32) (rs1 % 32) imm
masked (Op o rd rs1 rs2) = Op o (rd % 32) (rs1 % 32) (rs2 % 32)
masked (Fence rd rs1 imm) = Fence (rd % 32) (rs1 % 32) imm
masked Ecall = Ecall
masked Ebreak = Ebreak

-- the word of an instruction, of whose fields only the bits of its format count
unfoldable pub encode_of : Inst → ℕ
encode_of i = table_word (masked i)

-- the instruction of a word, if a row matches
unfoldable pub decode_of : ℕ → Option Inst
decode_of w =
    if opcode w == 0x37 then Some (Lui (rd_of w) (imm_u w))
    else (if opcode w == 0x17 then Some (Auipc (rd_of w) (imm_u w))
    else (if opcode w == 0x6F then Some (Jal (rd_of w) (imm_j w))
    else (if opcode w == 0x67 then jalr_of (funct3 w) (rd_of w) (rs1_of w) (imm_i w)
    else (if opcode w == 0x63 then branch_of (funct3 w) (rs1_of w) (rs2_of w) (imm_b w)
    else (if opcode w == 0x03 then load_of (funct3 w) (rd_of w) (rs1_of w) (imm_i w)
    else (if opcode w == 0x23 then store_of (funct3 w) (rs1_of w) (rs2_of w) (imm_s w)
    else (if opcode w == 0x13 then op_imm_of (funct3 w) (funct7 w) (rd_of w) (rs1_of w) (rs2_of w) (imm_i w)
    else (if opcode w == 0x33 then op_of (funct3 w) (funct7 w) (rd_of w) (rs1_of w) (rs2_of w)
    else (if opcode w == 0x0F then fence_of (funct3 w) (rd_of w) (rs1_of w) (imm_i w)
    else (if opcode w == 0x73 then system_of w
    else None))))))))))
