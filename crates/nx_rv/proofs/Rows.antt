-- Words, instructions and rows.
use Rattle.std.proofs.Common.{◌≡◌, ℕ, ◌*◌, ◌/◌, ◌%◌, ◌^◌, ◌<◌, true, false, Option, Some, None, refl, sym, ap, ◌∙◌, subst, arith, ⊎_elim, inl, inr}
use Rattle.std.specs.Prelude.{ℤ, pos, IfSome, MatchOption}
use Rattle.nx_base.specs.declared.operations.AluOp.{AluOp}
use Rattle.nx_base.specs.declared.operations.AluOp.TheVariants as op
use Rattle.nx_base.specs.declared.operations.Cond.TheVariants as cond
use Rattle.nx_rv.specs.declared.inst.Inst.{Inst}
use Rattle.nx_rv.specs.declared.inst.Inst.TheVariants.{Lui, Auipc, Jal, Jalr, Branch, Load, Store, OpImm, Op, Fence, Ecall, Ebreak}
use Rattle.nx_rv.specs.Formats.{pack, opcode, rd_of, funct3, rs1_of, rs2_of, funct7, low_bits, imm_i, imm_s, imm_b, imm_u, imm_j, pack_i, pack_s}
use Rattle.nx_rv.specs.Codes.{branch_funct3, branch_of, load_funct3, load_of, store_funct3, store_of, op_funct3, op_funct7, op_imm_of, op_of, jalr_of, fence_of, system_of}
use Rattle.nx_rv.specs.Table.{Row, LUI, AUIPC, JAL, JALR, BEQ, BNE, BLT, BGE, BLTU, BGEU, LB, LH, LW, LBU, LHU, SB, SH, SW, ADDI, SLTI, SLTIU, XORI, ORI, ANDI, SLLI, SRLI, SRAI, ADD, SUB, SLL, SLT, SLTU, XOR, SRL, SRA, OR, AND, FENCE, ECALL, EBREAK, MUL, MULH, MULHSU, MULHU, DIV, DIVU, REM, REMU, FitsShift, IsInRange, op_imm_word, table_word, masked, encode_of, decode_of, FitsOpImm}
use Rattle.nx_rv.proofs.Bits.{five_low, low_below}
use Rattle.nx_rv.proofs.Words.{HasFields, fields_of, pack_below, HasI, i_of, HasS, s_of, HasB, b_of, HasU, u_of, HasJ, j_of, rd_below, rs1_below, rs2_below, back_r, i_fits, back_i, s_fits, back_s, b_fits, back_b, u_fits, back_u, j_fits, back_j}
use Rattle.nx_rv.proofs.Groups.{by_eq, Encodes, found, branch_encodes, branch_back, branch_small, load_encodes, load_back, load_small, store_encodes, store_back, store_small, op_imm_encodes, op_encodes, op_back, op_small}

-- how the fields of a word decode
decode_lui : (w rd imm : ℕ) → HasU w 0x37 rd imm → decode_of w ≡ Some (Lui rd imm)
unfolding decode_of
decode_lui w rd imm f = rw (f.op_is, f.rd_is, f.imm_is)

decode_auipc : (w rd imm : ℕ) → HasU w 0x17 rd imm → decode_of w ≡ Some (Auipc rd imm)
unfolding decode_of
decode_auipc w rd imm f = rw (f.op_is, f.rd_is, f.imm_is)

decode_jal : (w rd : ℕ) (offset : ℤ) → HasJ w 0x6F rd offset → decode_of w ≡ Some (Jal rd offset)
unfolding decode_of
decode_jal w rd offset f = rw (f.op_is, f.rd_is, f.imm_is)

decode_jalr : (w rd rs1 : ℕ) (imm : ℤ) → HasI w 0x67 rd 0 rs1 imm → decode_of w ≡ Some (Jalr rd rs1 imm)
unfolding decode_of jalr_of
decode_jalr w rd rs1 imm f = rw (f.op_is, f.f3_is, f.rd_is, f.rs1_is, f.imm_is)

decode_branch : (w f3 rs1 rs2 : ℕ) (offset : ℤ) (i : Inst) → HasB w 0x63 f3 rs1 rs2 offset → branch_of f3 rs1 rs2 offset ≡ Some i → decode_of w ≡ Some i
unfolding decode_of
decode_branch w f3 rs1 rs2 offset i f e = rw (f.op_is, f.f3_is, f.rs1_is, f.rs2_is, f.imm_is) e

decode_load : (w rd f3 rs1 : ℕ) (imm : ℤ) (i : Inst) → HasI w 0x03 rd f3 rs1 imm → load_of f3 rd rs1 imm ≡ Some i → decode_of w ≡ Some i
unfolding decode_of
decode_load w rd f3 rs1 imm i f e = rw (f.op_is, f.f3_is, f.rd_is, f.rs1_is, f.imm_is) e

decode_store : (w f3 rs1 rs2 : ℕ) (imm : ℤ) (i : Inst) → HasS w 0x23 f3 rs1 rs2 imm → store_of f3 rs1 rs2 imm ≡ Some i → decode_of w ≡ Some i
unfolding decode_of
decode_store w f3 rs1 rs2 imm i f e = rw (f.op_is, f.f3_is, f.rs1_is, f.rs2_is, f.imm_is) e

decode_imm : (w rd f3 rs1 : ℕ) (imm : ℤ) (i : Inst) → HasI w 0x13 rd f3 rs1 imm → ((f7 rs2 : ℕ) → op_imm_of f3 f7 rd rs1 rs2 imm ≡ Some i) → decode_of w ≡ Some i
unfolding decode_of
decode_imm w rd f3 rs1 imm i f e = rw (f.op_is, f.f3_is, f.rd_is, f.rs1_is, f.imm_is) (e _ _)

decode_shift : (w rd f3 rs1 rs2 f7 : ℕ) (i : Inst) → HasFields w 0x13 rd f3 rs1 rs2 f7 → ((imm : ℤ) → op_imm_of f3 f7 rd rs1 rs2 imm ≡ Some i) → decode_of w ≡ Some i
unfolding decode_of
decode_shift w rd f3 rs1 rs2 f7 i f e = rw (f.op_is, f.f3_is, f.rd_is, f.rs1_is, f.rs2_is, f.f7_is) (e _)

decode_op : (w rd f3 rs1 rs2 f7 : ℕ) (i : Inst) → HasFields w 0x33 rd f3 rs1 rs2 f7 → op_of f3 f7 rd rs1 rs2 ≡ Some i → decode_of w ≡ Some i
unfolding decode_of
decode_op w rd f3 rs1 rs2 f7 i f e = rw (f.op_is, f.f3_is, f.rd_is, f.rs1_is, f.rs2_is, f.f7_is) e

decode_fence : (w rd rs1 : ℕ) (imm : ℤ) → HasI w 0x0F rd 0 rs1 imm → decode_of w ≡ Some (Fence rd rs1 imm)
unfolding decode_of fence_of
decode_fence w rd rs1 imm f = rw (f.op_is, f.f3_is, f.rd_is, f.rs1_is, f.imm_is)

-- a shift by five bits
shift_back : (f3 f7 rd rs1 : ℕ) (imm : ℤ) (o : AluOp) → f3 < 8 → FitsShift rd rs1 imm → ((rs2 : ℕ) (z : ℤ) → op_imm_of f3 f7 rd rs1 rs2 z ≡ Some (OpImm o rd rs1 (pos rs2))) → decode_of (pack 0x13 rd f3 rs1 (low_bits 32 imm) f7) ≡ Some (OpImm o rd rs1 imm)
shift_back f3 f7 rd rs1 imm o a h e =
    let n = low_bits 32 imm in
    decode_shift _ rd f3 rs1 n f7 _ (fields_of 0x13 rd f3 rs1 n f7 (omega arith) h.0 a h.1 (low_below 32 imm (omega arith))) (λ z. e n z) ∙ ap (λ z. Some (OpImm o rd rs1 z)) (five_low imm h.2)

decode_table : (i : Inst) → IsInRange i → decode_of (table_word i) ≡ Some i
unfolding table_word op_imm_word op_imm_of system_of decode_of opcode
decode_table (Lui rd imm) h = decode_lui _ rd imm (u_of 0x37 rd imm (omega arith) h)
decode_table (Auipc rd imm) h = decode_auipc _ rd imm (u_of 0x17 rd imm (omega arith) h)
decode_table (Jal rd offset) h = decode_jal _ rd offset (j_of 0x6F rd offset (omega arith) h)
decode_table (Jalr rd rs1 imm) h = decode_jalr _ rd rs1 imm (i_of 0x67 rd 0 rs1 imm (omega arith) (omega arith) h)
decode_table (Branch c rs1 rs2 offset) h = decode_branch _ (branch_funct3 c) rs1 rs2 offset _ (b_of 0x63 (branch_funct3 c) rs1 rs2 offset (omega arith) (branch_small c) h) (branch_back c rs1 rs2 offset)
decode_table (Load width signed rd rs1 imm) h = decode_load _ rd (load_funct3 width signed) rs1 imm _ (i_of 0x03 rd (load_funct3 width signed) rs1 imm (omega arith) (load_small width signed h.0) h.1) (load_back width signed rd rs1 imm h.0)
decode_table (Store width rs1 rs2 imm) h = decode_store _ (store_funct3 width) rs1 rs2 imm _ (s_of 0x23 (store_funct3 width) rs1 rs2 imm (omega arith) (store_small width h.0) h.1) (store_back width rs1 rs2 imm h.0)
decode_table (OpImm op.Add rd rs1 imm) h = decode_imm _ rd 0 rs1 imm _ (i_of 0x13 rd 0 rs1 imm (omega arith) (omega arith) h) (λ f7 rs2. refl)
decode_table (OpImm op.Slt rd rs1 imm) h = decode_imm _ rd 2 rs1 imm _ (i_of 0x13 rd 2 rs1 imm (omega arith) (omega arith) h) (λ f7 rs2. refl)
decode_table (OpImm op.Sltu rd rs1 imm) h = decode_imm _ rd 3 rs1 imm _ (i_of 0x13 rd 3 rs1 imm (omega arith) (omega arith) h) (λ f7 rs2. refl)
decode_table (OpImm op.Xor rd rs1 imm) h = decode_imm _ rd 4 rs1 imm _ (i_of 0x13 rd 4 rs1 imm (omega arith) (omega arith) h) (λ f7 rs2. refl)
decode_table (OpImm op.Or rd rs1 imm) h = decode_imm _ rd 6 rs1 imm _ (i_of 0x13 rd 6 rs1 imm (omega arith) (omega arith) h) (λ f7 rs2. refl)
decode_table (OpImm op.And rd rs1 imm) h = decode_imm _ rd 7 rs1 imm _ (i_of 0x13 rd 7 rs1 imm (omega arith) (omega arith) h) (λ f7 rs2. refl)
decode_table (OpImm op.Sll rd rs1 imm) h = shift_back 1 0x00 rd rs1 imm op.Sll (omega arith) h (λ rs2 z. refl)
decode_table (OpImm op.Srl rd rs1 imm) h = shift_back 5 0x00 rd rs1 imm op.Srl (omega arith) h (λ rs2 z. refl)
decode_table (OpImm op.Sra rd rs1 imm) h = shift_back 5 0x20 rd rs1 imm op.Sra (omega arith) h (λ rs2 z. refl)
decode_table (OpImm o rd rs1 imm) h = absurd h
decode_table (Op o rd rs1 rs2) h =
    let f3 = op_funct3 o in
    let f7 = op_funct7 o in
    decode_op _ rd f3 rs1 rs2 f7 _ (fields_of 0x33 rd f3 rs1 rs2 f7 (omega arith) h.0 (op_small o).0 h.1 h.2) (op_back o rd rs1 rs2)
decode_table (Fence rd rs1 imm) h = decode_fence _ rd rs1 imm (i_of 0x0F rd 0 rs1 imm (omega arith) (omega arith) h)
decode_table Ecall h = refl
decode_table Ebreak h = refl

-- the word of an instruction has 32 bits
shift_small : (f3 f7 rd rs1 : ℕ) (imm : ℤ) → f3 < 8 → f7 < 128 → FitsShift rd rs1 imm → pack 0x13 rd f3 rs1 (low_bits 32 imm) f7 < 2 ^ 32
shift_small f3 f7 rd rs1 imm a b h = pack_below 0x13 rd f3 rs1 (low_bits 32 imm) f7 (omega arith) h.0 a h.1 (low_below 32 imm (omega arith)) b

table_small : (i : Inst) → IsInRange i → table_word i < 2 ^ 32
unfolding table_word op_imm_word
table_small (Lui rd imm) h = (u_of 0x37 rd imm (omega arith) h).small
table_small (Auipc rd imm) h = (u_of 0x17 rd imm (omega arith) h).small
table_small (Jal rd offset) h = (j_of 0x6F rd offset (omega arith) h).small
table_small (Jalr rd rs1 imm) h = (i_of 0x67 rd 0 rs1 imm (omega arith) (omega arith) h).small
table_small (Branch c rs1 rs2 offset) h = (b_of 0x63 (branch_funct3 c) rs1 rs2 offset (omega arith) (branch_small c) h).small
table_small (Load width signed rd rs1 imm) h = (i_of 0x03 rd (load_funct3 width signed) rs1 imm (omega arith) (load_small width signed h.0) h.1).small
table_small (Store width rs1 rs2 imm) h = (s_of 0x23 (store_funct3 width) rs1 rs2 imm (omega arith) (store_small width h.0) h.1).small
table_small (OpImm op.Add rd rs1 imm) h = (i_of 0x13 rd 0 rs1 imm (omega arith) (omega arith) h).small
table_small (OpImm op.Slt rd rs1 imm) h = (i_of 0x13 rd 2 rs1 imm (omega arith) (omega arith) h).small
table_small (OpImm op.Sltu rd rs1 imm) h = (i_of 0x13 rd 3 rs1 imm (omega arith) (omega arith) h).small
table_small (OpImm op.Xor rd rs1 imm) h = (i_of 0x13 rd 4 rs1 imm (omega arith) (omega arith) h).small
table_small (OpImm op.Or rd rs1 imm) h = (i_of 0x13 rd 6 rs1 imm (omega arith) (omega arith) h).small
table_small (OpImm op.And rd rs1 imm) h = (i_of 0x13 rd 7 rs1 imm (omega arith) (omega arith) h).small
table_small (OpImm op.Sll rd rs1 imm) h = shift_small 1 0x00 rd rs1 imm (omega arith) (omega arith) h
table_small (OpImm op.Srl rd rs1 imm) h = shift_small 5 0x00 rd rs1 imm (omega arith) (omega arith) h
table_small (OpImm op.Sra rd rs1 imm) h = shift_small 5 0x20 rd rs1 imm (omega arith) (omega arith) h
table_small (OpImm o rd rs1 imm) h = absurd h
table_small (Op o rd rs1 rs2) h = pack_below 0x33 rd (op_funct3 o) rs1 rs2 (op_funct7 o) (omega arith) h.0 (op_small o).0 h.1 h.2 (op_small o).1
table_small (Fence rd rs1 imm) h = (i_of 0x0F rd 0 rs1 imm (omega arith) (omega arith) h).small
table_small Ecall h = omega arith
table_small Ebreak h = omega arith

-- a word that decodes is its instruction's, which is in range
pub decode_encodes : (w : ℕ) (i : Inst) → w < 2 ^ 32 → decode_of w ≡ Some i → Encodes w i
unfolding decode_of jalr_of fence_of system_of table_word
decode_encodes w i h e =
    by_eq (opcode w) 0x37 _ _ i e (λ a s. lui a s)
    (λ e. by_eq (opcode w) 0x17 _ _ i e (λ a s. auipc a s)
    (λ e. by_eq (opcode w) 0x6F _ _ i e (λ a s. jal a s)
    (λ e. by_eq (opcode w) 0x67 _ _ i e (λ a s. by_eq (funct3 w) 0 _ _ i s (λ b t. jalr a b t) (λ t. absurd cc))
    (λ e. by_eq (opcode w) 0x63 _ _ i e (λ a s. subst (λ n. Encodes n i) (back_b w 0x63 (funct3 w) h a refl) (branch_encodes (funct3 w) (rs1_of w) (rs2_of w) (imm_b w) i (b_fits w h) s))
    (λ e. by_eq (opcode w) 0x03 _ _ i e (λ a s. subst (λ n. Encodes n i) (back_i w 0x03 (funct3 w) h a refl) (load_encodes (funct3 w) (rd_of w) (rs1_of w) (imm_i w) i (i_fits w h) s))
    (λ e. by_eq (opcode w) 0x23 _ _ i e (λ a s. subst (λ n. Encodes n i) (back_s w 0x23 (funct3 w) h a refl) (store_encodes (funct3 w) (rs1_of w) (rs2_of w) (imm_s w) i (s_fits w h) s))
    (λ e. by_eq (opcode w) 0x13 _ _ i e (λ a s. op_imm_encodes (funct3 w) (funct7 w) (rd_of w) (rs1_of w) (rs2_of w) (imm_i w) i w (i_fits w h) (rs2_below w) (back_i w 0x13 (funct3 w) h a refl) (back_r w 0x13 (funct3 w) (funct7 w) a refl refl) s)
    (λ e. by_eq (opcode w) 0x33 _ _ i e (λ a s. subst (λ n. Encodes n i) (back_r w 0x33 (funct3 w) (funct7 w) a refl refl) (op_encodes (funct3 w) (funct7 w) (rd_of w) (rs1_of w) (rs2_of w) i (rd_below w, rs1_below w, rs2_below w) s))
    (λ e. by_eq (opcode w) 0x0F _ _ i e (λ a s. by_eq (funct3 w) 0 _ _ i s (λ b t. fence a b t) (λ t. absurd cc))
    (λ e. by_eq (opcode w) 0x73 _ _ i e (λ a s. by_eq w 0x00000073 _ _ i s (λ b t. ecall b t) (λ s. by_eq w 0x00100073 _ _ i s (λ b t. ebreak b t) (λ t. absurd cc)))
    (λ e. absurd cc)))))))))))
  where
    lui : opcode w ≡ 0x37 → Some (Lui (rd_of w) (imm_u w)) ≡ Some i → Encodes w i
    lui a s = found w _ i s (u_fits w h) (back_u w 0x37 a)

    auipc : opcode w ≡ 0x17 → Some (Auipc (rd_of w) (imm_u w)) ≡ Some i → Encodes w i
    auipc a s = found w _ i s (u_fits w h) (back_u w 0x17 a)

    jal : opcode w ≡ 0x6F → Some (Jal (rd_of w) (imm_j w)) ≡ Some i → Encodes w i
    jal a s = found w _ i s (j_fits w h) (back_j w 0x6F h a)

    jalr : opcode w ≡ 0x67 → funct3 w ≡ 0 → Some (Jalr (rd_of w) (rs1_of w) (imm_i w)) ≡ Some i → Encodes w i
    jalr a b s = found w _ i s (i_fits w h) (back_i w 0x67 0 h a b)

    fence : opcode w ≡ 0x0F → funct3 w ≡ 0 → Some (Fence (rd_of w) (rs1_of w) (imm_i w)) ≡ Some i → Encodes w i
    fence a b s = found w _ i s (i_fits w h) (back_i w 0x0F 0 h a b)

    ecall : w ≡ 0x00000073 → Some Ecall ≡ Some i → Encodes w i
    ecall a s = found w _ i s tt (sym a)

    ebreak : w ≡ 0x00100073 → Some Ebreak ≡ Some i → Encodes w i
    ebreak a s = found w _ i s tt (sym a)

-- an operation with an immediate that is in range has its registers in range
op_imm_registers : (o : AluOp) (rd rs1 : ℕ) (imm : ℤ) → FitsOpImm o rd rs1 imm → (rd < 32) × (rs1 < 32)
op_imm_registers op.Add rd rs1 imm h = (h.0, h.1)
op_imm_registers op.Slt rd rs1 imm h = (h.0, h.1)
op_imm_registers op.Sltu rd rs1 imm h = (h.0, h.1)
op_imm_registers op.Xor rd rs1 imm h = (h.0, h.1)
op_imm_registers op.Or rd rs1 imm h = (h.0, h.1)
op_imm_registers op.And rd rs1 imm h = (h.0, h.1)
op_imm_registers op.Sll rd rs1 imm h = (h.0, h.1)
op_imm_registers op.Srl rd rs1 imm h = (h.0, h.1)
op_imm_registers op.Sra rd rs1 imm h = (h.0, h.1)
op_imm_registers o rd rs1 imm h = absurd h

-- fields that are in range stay as they are
masked_same : (i : Inst) → IsInRange i → masked i ≡ i
unfolding masked
masked_same (Lui rd imm) h = let r : rd % 32 ≡ rd = omega arith in let n : imm / 4096 * 4096 ≡ imm = omega arith in cc
masked_same (Auipc rd imm) h = let r : rd % 32 ≡ rd = omega arith in let n : imm / 4096 * 4096 ≡ imm = omega arith in cc
masked_same (Jal rd offset) h = let r : rd % 32 ≡ rd = omega arith in cc
masked_same (Jalr rd rs1 imm) h = let r : rd % 32 ≡ rd = omega arith in let a : rs1 % 32 ≡ rs1 = omega arith in cc
masked_same (Branch c rs1 rs2 offset) h = let a : rs1 % 32 ≡ rs1 = omega arith in let b : rs2 % 32 ≡ rs2 = omega arith in cc
masked_same (Load width signed rd rs1 imm) h = let r : rd % 32 ≡ rd = omega arith in let a : rs1 % 32 ≡ rs1 = omega arith in cc
masked_same (Store width rs1 rs2 imm) h = let a : rs1 % 32 ≡ rs1 = omega arith in let b : rs2 % 32 ≡ rs2 = omega arith in cc
masked_same (OpImm o rd rs1 imm) h = let f = op_imm_registers o rd rs1 imm h in let r : rd % 32 ≡ rd = omega arith in let a : rs1 % 32 ≡ rs1 = omega arith in cc
masked_same (Op o rd rs1 rs2) h = let r : rd % 32 ≡ rd = omega arith in let a : rs1 % 32 ≡ rs1 = omega arith in let b : rs2 % 32 ≡ rs2 = omega arith in cc
masked_same (Fence rd rs1 imm) h = let r : rd % 32 ≡ rd = omega arith in let a : rs1 % 32 ≡ rs1 = omega arith in cc
masked_same Ecall h = refl
masked_same Ebreak h = refl

-- the word of an instruction in range is the table's
encode_table : (i : Inst) → IsInRange i → encode_of i ≡ table_word i
unfolding encode_of
encode_table i h = ap table_word (masked_same i h)

pub decode_encode : (i : Inst) → IsInRange i → decode_of (encode_of i) ≡ Some i
decode_encode i h = subst (λ n. decode_of n ≡ Some i) (sym (encode_table i h)) (decode_table i h)

pub encode_small : (i : Inst) → IsInRange i → encode_of i < 2 ^ 32
encode_small i h = subst (λ n. n < 2 ^ 32) (sym (encode_table i h)) (table_small i h)

pub encode_decode : (w : ℕ) (i : Inst) → w < 2 ^ 32 → decode_of w ≡ Some i → encode_of i ≡ w
encode_decode w i h e = let q = decode_encodes w i h e in encode_table i q.0 ∙ q.1

-- a row is the word of an instruction in range
pub row_of : (i : Inst) → IsInRange i → Row (table_word i) i
unfolding table_word op_imm_word
row_of (Lui rd imm) h = LUI rd imm h
row_of (Auipc rd imm) h = AUIPC rd imm h
row_of (Jal rd offset) h = JAL rd offset h
row_of (Jalr rd rs1 imm) h = JALR rd rs1 imm h
row_of (Branch cond.Eq rs1 rs2 offset) h = BEQ rs1 rs2 offset h
row_of (Branch cond.Ne rs1 rs2 offset) h = BNE rs1 rs2 offset h
row_of (Branch cond.Lt rs1 rs2 offset) h = BLT rs1 rs2 offset h
row_of (Branch cond.Ge rs1 rs2 offset) h = BGE rs1 rs2 offset h
row_of (Branch cond.Ltu rs1 rs2 offset) h = BLTU rs1 rs2 offset h
row_of (Branch cond.Geu rs1 rs2 offset) h = BGEU rs1 rs2 offset h
row_of (Load width true rd rs1 imm) h =
    let at : ℕ → Type 0 = λ k. Row (pack_i 0x03 rd (load_funct3 k true) rs1 (low_bits 4096 imm)) (Load k true rd rs1 imm) in
    ⊎_elim (λ e. subst at (sym e) (LB rd rs1 imm h.1)) (λ o. ⊎_elim (λ e. subst at (sym e) (LH rd rs1 imm h.1)) (λ e. subst at (sym e) (LW rd rs1 imm h.1)) o) h.0
row_of (Load width false rd rs1 imm) h =
    let at : ℕ → Type 0 = λ k. Row (pack_i 0x03 rd (load_funct3 k false) rs1 (low_bits 4096 imm)) (Load k false rd rs1 imm) in
    ⊎_elim (λ e. subst at (sym e) (LBU rd rs1 imm h.1)) (λ e. subst at (sym e) (LHU rd rs1 imm h.1)) h.0
row_of (Store width rs1 rs2 imm) h =
    let at : ℕ → Type 0 = λ k. Row (pack_s 0x23 (store_funct3 k) rs1 rs2 (low_bits 4096 imm)) (Store k rs1 rs2 imm) in
    ⊎_elim (λ e. subst at (sym e) (SB rs1 rs2 imm h.1)) (λ o. ⊎_elim (λ e. subst at (sym e) (SH rs1 rs2 imm h.1)) (λ e. subst at (sym e) (SW rs1 rs2 imm h.1)) o) h.0
row_of (OpImm op.Add rd rs1 imm) h = ADDI rd rs1 imm h
row_of (OpImm op.Slt rd rs1 imm) h = SLTI rd rs1 imm h
row_of (OpImm op.Sltu rd rs1 imm) h = SLTIU rd rs1 imm h
row_of (OpImm op.Xor rd rs1 imm) h = XORI rd rs1 imm h
row_of (OpImm op.Or rd rs1 imm) h = ORI rd rs1 imm h
row_of (OpImm op.And rd rs1 imm) h = ANDI rd rs1 imm h
row_of (OpImm op.Sll rd rs1 imm) h = SLLI rd rs1 imm h
row_of (OpImm op.Srl rd rs1 imm) h = SRLI rd rs1 imm h
row_of (OpImm op.Sra rd rs1 imm) h = SRAI rd rs1 imm h
row_of (OpImm o rd rs1 imm) h = absurd h
row_of (Op op.Add rd rs1 rs2) h = ADD rd rs1 rs2 h
row_of (Op op.Sub rd rs1 rs2) h = SUB rd rs1 rs2 h
row_of (Op op.Sll rd rs1 rs2) h = SLL rd rs1 rs2 h
row_of (Op op.Slt rd rs1 rs2) h = SLT rd rs1 rs2 h
row_of (Op op.Sltu rd rs1 rs2) h = SLTU rd rs1 rs2 h
row_of (Op op.Xor rd rs1 rs2) h = XOR rd rs1 rs2 h
row_of (Op op.Srl rd rs1 rs2) h = SRL rd rs1 rs2 h
row_of (Op op.Sra rd rs1 rs2) h = SRA rd rs1 rs2 h
row_of (Op op.Or rd rs1 rs2) h = OR rd rs1 rs2 h
row_of (Op op.And rd rs1 rs2) h = AND rd rs1 rs2 h
row_of (Op op.Mul rd rs1 rs2) h = MUL rd rs1 rs2 h
row_of (Op op.Mulh rd rs1 rs2) h = MULH rd rs1 rs2 h
row_of (Op op.Mulhsu rd rs1 rs2) h = MULHSU rd rs1 rs2 h
row_of (Op op.Mulhu rd rs1 rs2) h = MULHU rd rs1 rs2 h
row_of (Op op.Div rd rs1 rs2) h = DIV rd rs1 rs2 h
row_of (Op op.Divu rd rs1 rs2) h = DIVU rd rs1 rs2 h
row_of (Op op.Rem rd rs1 rs2) h = REM rd rs1 rs2 h
row_of (Op op.Remu rd rs1 rs2) h = REMU rd rs1 rs2 h
row_of (Fence rd rs1 imm) h = FENCE rd rs1 imm h
row_of Ecall h = ECALL
row_of Ebreak h = EBREAK

pub of_row : (w : ℕ) (i : Inst) → Row w i → Encodes w i
unfolding table_word op_imm_word
of_row _ _ (LUI rd imm h) = (h, refl)
of_row _ _ (AUIPC rd imm h) = (h, refl)
of_row _ _ (JAL rd offset h) = (h, refl)
of_row _ _ (JALR rd rs1 imm h) = (h, refl)
of_row _ _ (BEQ rs1 rs2 offset h) = (h, refl)
of_row _ _ (BNE rs1 rs2 offset h) = (h, refl)
of_row _ _ (BLT rs1 rs2 offset h) = (h, refl)
of_row _ _ (BGE rs1 rs2 offset h) = (h, refl)
of_row _ _ (BLTU rs1 rs2 offset h) = (h, refl)
of_row _ _ (BGEU rs1 rs2 offset h) = (h, refl)
of_row _ _ (LB rd rs1 imm h) = ((inl refl, h), refl)
of_row _ _ (LH rd rs1 imm h) = ((inr (inl refl), h), refl)
of_row _ _ (LW rd rs1 imm h) = ((inr (inr refl), h), refl)
of_row _ _ (LBU rd rs1 imm h) = ((inl refl, h), refl)
of_row _ _ (LHU rd rs1 imm h) = ((inr refl, h), refl)
of_row _ _ (SB rs1 rs2 imm h) = ((inl refl, h), refl)
of_row _ _ (SH rs1 rs2 imm h) = ((inr (inl refl), h), refl)
of_row _ _ (SW rs1 rs2 imm h) = ((inr (inr refl), h), refl)
of_row _ _ (ADDI rd rs1 imm h) = (h, refl)
of_row _ _ (SLTI rd rs1 imm h) = (h, refl)
of_row _ _ (SLTIU rd rs1 imm h) = (h, refl)
of_row _ _ (XORI rd rs1 imm h) = (h, refl)
of_row _ _ (ORI rd rs1 imm h) = (h, refl)
of_row _ _ (ANDI rd rs1 imm h) = (h, refl)
of_row _ _ (SLLI rd rs1 imm h) = (h, refl)
of_row _ _ (SRLI rd rs1 imm h) = (h, refl)
of_row _ _ (SRAI rd rs1 imm h) = (h, refl)
of_row _ _ (ADD rd rs1 rs2 h) = (h, refl)
of_row _ _ (SUB rd rs1 rs2 h) = (h, refl)
of_row _ _ (SLL rd rs1 rs2 h) = (h, refl)
of_row _ _ (SLT rd rs1 rs2 h) = (h, refl)
of_row _ _ (SLTU rd rs1 rs2 h) = (h, refl)
of_row _ _ (XOR rd rs1 rs2 h) = (h, refl)
of_row _ _ (SRL rd rs1 rs2 h) = (h, refl)
of_row _ _ (SRA rd rs1 rs2 h) = (h, refl)
of_row _ _ (OR rd rs1 rs2 h) = (h, refl)
of_row _ _ (AND rd rs1 rs2 h) = (h, refl)
of_row _ _ (FENCE rd rs1 imm h) = (h, refl)
of_row _ _ ECALL = (tt, refl)
of_row _ _ EBREAK = (tt, refl)
of_row _ _ (MUL rd rs1 rs2 h) = (h, refl)
of_row _ _ (MULH rd rs1 rs2 h) = (h, refl)
of_row _ _ (MULHSU rd rs1 rs2 h) = (h, refl)
of_row _ _ (MULHU rd rs1 rs2 h) = (h, refl)
of_row _ _ (DIV rd rs1 rs2 h) = (h, refl)
of_row _ _ (DIVU rd rs1 rs2 h) = (h, refl)
of_row _ _ (REM rd rs1 rs2 h) = (h, refl)
of_row _ _ (REMU rd rs1 rs2 h) = (h, refl)

pub row_decodes : (w : ℕ) (i : Inst) → Row w i → decode_of w ≡ Some i
row_decodes w i r = let q = of_row w i r in subst (λ n. decode_of n ≡ Some i) q.1 (decode_table i q.0)

-- what encoding and decoding answer, as rows
pub encoded_row : (w : ℕ) (i : Inst) → w ≡ encode_of i → IsInRange i → Row w i
encoded_row w i e h = subst (λ n. Row n i) (sym (e ∙ encode_table i h)) (row_of i h)

pub decoded_row : (w : ℕ) (o : Option Inst) → w < 2 ^ 32 → o ≡ decode_of w → MatchOption o ((i : Inst) → ¬ Row w i) (λ i. Row w i)
decoded_row w None h e = λ i row. let d = row_decodes w i row in absurd cc
decoded_row w (Some i) h e = let q = decode_encodes w i h (sym e) in subst (λ n. Row n i) q.1 (row_of i q.0)

pub decoded_in_range : (w : ℕ) (o : Option Inst) → w < 2 ^ 32 → o ≡ decode_of w → IfSome o IsInRange
decoded_in_range w None h e = tt
decoded_in_range w (Some i) h e = (decode_encodes w i h (sym e)).0

pub one_instruction : (w : ℕ) (i j : Inst) → Row w i → Row w j → i ≡ j
one_instruction w i j r s = let d = row_decodes w i r in let e = row_decodes w j s in cc

pub one_word : (v w : ℕ) (i : Inst) → Row v i → Row w i → v ≡ w
one_word v w i r s = sym (of_row v i r).1 ∙ (of_row w i s).1
