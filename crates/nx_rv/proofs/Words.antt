-- The fields of a packed word, and a word from its fields.
use Rattle.std.proofs.Common.{◌≡◌, ℕ, ◌+◌, ◌*◌, ◌/◌, ◌%◌, ◌^◌, ◌<◌, refl, ap, ◌∙◌, arith}
use Rattle.std.specs.Prelude.{ℤ}
use Rattle.std.proofs.lemmas.Nat.{mod-mul-add, div-mul-add}
use Rattle.std.proofs.Math.Nat.{mul_comm, add_comm}
use Rattle.nx_rv.specs.Formats.{pack, opcode, rd_of, funct3, rs1_of, rs2_of, funct7, extended, low_bits, imm_i, imm_s, imm_b, imm_u, imm_j, pack_i, pack_s, pack_b, pack_u, pack_j}
use Rattle.nx_rv.specs.Table.{FitsI, FitsS, FitsB, FitsU, FitsJ}
use Rattle.nx_rv.proofs.Bits.{low_extended_12, low_extended_13, low_extended_21, extended_low_12, extended_low_13, extended_low_21, even_extended_13, even_extended_21, extended_within, bits_12, bits_13, bits_21, places_13, places_21, low_even_13, low_even_21, low_below}

-- a digit below its base, and what stands above it
digit : (a m x : ℕ) → a < m → (a + m * x) % m ≡ a
digit a m x h = rw (add_comm a (m * x), mul_comm m x) (mod-mul-add x m a h)

above : (a m x : ℕ) → a < m → (a + m * x) / m ≡ x
above a m x h = rw (add_comm a (m * x), mul_comm m x) (div-mul-add x m a h)

pub record HasFields (w op rd f3 rs1 rs2 f7 : ℕ) : Type 0 where
  pub op_is : opcode w ≡ op
  pub rd_is : rd_of w ≡ rd
  pub f3_is : funct3 w ≡ f3
  pub rs1_is : rs1_of w ≡ rs1
  pub rs2_is : rs2_of w ≡ rs2
  pub f7_is : funct7 w ≡ f7

pub fields_of : (op rd f3 rs1 rs2 f7 : ℕ) → op < 128 → rd < 32 → f3 < 8 → rs1 < 32 → rs2 < 32 → HasFields (pack op rd f3 rs1 rs2 f7) op rd f3 rs1 rs2 f7
unfolding pack opcode rd_of funct3 rs1_of rs2_of funct7
fields_of op rd f3 rs1 rs2 f7 a b c d e =
    let e1 = above op 128 (rd + 32 * (f3 + 8 * (rs1 + 32 * (rs2 + 32 * f7)))) a in
    let e2 = above rd 32 (f3 + 8 * (rs1 + 32 * (rs2 + 32 * f7))) b in
    let e3 = above f3 8 (rs1 + 32 * (rs2 + 32 * f7)) c in
    let e4 = above rs1 32 (rs2 + 32 * f7) d in
    let e5 = above rs2 32 f7 e in
    record {
      op_is = digit op 128 _ a;
      rd_is = rw e1 (digit rd 32 _ b);
      f3_is = rw (e1, e2) (digit f3 8 _ c);
      rs1_is = rw (e1, e2, e3) (digit rs1 32 _ d);
      rs2_is = rw (e1, e2, e3, e4) (digit rs2 32 _ e);
      f7_is = rw (e1, e2, e3, e4) e5;
    }

pub pack_below : (op rd f3 rs1 rs2 f7 : ℕ) → op < 128 → rd < 32 → f3 < 8 → rs1 < 32 → rs2 < 32 → f7 < 128 → pack op rd f3 rs1 rs2 f7 < 2 ^ 32
unfolding pack
pack_below op rd f3 rs1 rs2 f7 a b c d e f = omega arith

-- a word of format I
pub record HasI (w op rd f3 rs1 : ℕ) (imm : ℤ) : Type 0 where
  pub op_is : opcode w ≡ op
  pub rd_is : rd_of w ≡ rd
  pub f3_is : funct3 w ≡ f3
  pub rs1_is : rs1_of w ≡ rs1
  pub imm_is : imm_i w ≡ imm
  pub small : w < 2 ^ 32

pub i_of : (op rd f3 rs1 : ℕ) (imm : ℤ) → op < 128 → f3 < 8 → FitsI rd rs1 imm → HasI (pack_i op rd f3 rs1 (low_bits 4096 imm)) op rd f3 rs1 imm
unfolding pack_i imm_i
i_of op rd f3 rs1 imm a b h =
    let n = low_bits 4096 imm in
    let l = low_below 4096 imm (omega arith) in
    let f = fields_of op rd f3 rs1 (n % 32) (n / 32) a h.0 b h.1 (omega arith) in
    record {
      op_is = f.op_is;
      rd_is = f.rd_is;
      f3_is = f.f3_is;
      rs1_is = f.rs1_is;
      imm_is = rw (f.rs2_is, f.f7_is, bits_12 n) (extended_low_12 imm h.2);
      small = pack_below op rd f3 rs1 (n % 32) (n / 32) a h.0 b h.1 (omega arith) (omega arith);
    }

-- a word of format S
pub record HasS (w op f3 rs1 rs2 : ℕ) (imm : ℤ) : Type 0 where
  pub op_is : opcode w ≡ op
  pub f3_is : funct3 w ≡ f3
  pub rs1_is : rs1_of w ≡ rs1
  pub rs2_is : rs2_of w ≡ rs2
  pub imm_is : imm_s w ≡ imm
  pub small : w < 2 ^ 32

pub s_of : (op f3 rs1 rs2 : ℕ) (imm : ℤ) → op < 128 → f3 < 8 → FitsS rs1 rs2 imm → HasS (pack_s op f3 rs1 rs2 (low_bits 4096 imm)) op f3 rs1 rs2 imm
unfolding pack_s imm_s
s_of op f3 rs1 rs2 imm a b h =
    let n = low_bits 4096 imm in
    let l = low_below 4096 imm (omega arith) in
    let f = fields_of op (n % 32) f3 rs1 rs2 (n / 32) a (omega arith) b h.0 h.1 in
    record {
      op_is = f.op_is;
      f3_is = f.f3_is;
      rs1_is = f.rs1_is;
      rs2_is = f.rs2_is;
      imm_is = rw (f.rd_is, f.f7_is, bits_12 n) (extended_low_12 imm h.2);
      small = pack_below op (n % 32) f3 rs1 rs2 (n / 32) a (omega arith) b h.0 h.1 (omega arith);
    }

-- a word of format B
pub record HasB (w op f3 rs1 rs2 : ℕ) (offset : ℤ) : Type 0 where
  pub op_is : opcode w ≡ op
  pub f3_is : funct3 w ≡ f3
  pub rs1_is : rs1_of w ≡ rs1
  pub rs2_is : rs2_of w ≡ rs2
  pub imm_is : imm_b w ≡ offset
  pub small : w < 2 ^ 32

pub b_of : (op f3 rs1 rs2 : ℕ) (offset : ℤ) → op < 128 → f3 < 8 → FitsB rs1 rs2 offset → HasB (pack_b op f3 rs1 rs2 (low_bits 8192 offset)) op f3 rs1 rs2 offset
unfolding pack_b imm_b
b_of op f3 rs1 rs2 offset a b h =
    let n = low_bits 8192 offset in
    let l = low_below 8192 offset (omega arith) in
    let rd = 2 * (n / 2 % 16) + n / 2048 % 2 in
    let f7 = n / 32 % 64 + 64 * (n / 4096) in
    let f = fields_of op rd f3 rs1 rs2 f7 a (omega arith) b h.0 h.1 in
    record {
      op_is = f.op_is;
      f3_is = f.f3_is;
      rs1_is = f.rs1_is;
      rs2_is = f.rs2_is;
      imm_is = rw (f.rd_is, f.f7_is) (ap (extended 4096) (bits_13 n l (low_even_13 offset h.3)) ∙ extended_low_13 offset h.2);
      small = pack_below op rd f3 rs1 rs2 f7 a (omega arith) b h.0 h.1 (omega arith);
    }

-- a word of format U
pub record HasU (w op rd imm : ℕ) : Type 0 where
  pub op_is : opcode w ≡ op
  pub rd_is : rd_of w ≡ rd
  pub imm_is : imm_u w ≡ imm
  pub small : w < 2 ^ 32

pub u_of : (op rd imm : ℕ) → op < 128 → FitsU rd imm → HasU (pack_u op rd imm) op rd imm
unfolding pack_u opcode rd_of imm_u
u_of op rd imm a h =
    let b = h.0 in
    let c = h.1 in
    let d = h.2 in
    record { op_is = omega arith; rd_is = omega arith; imm_is = omega arith; small = omega arith }

-- a word of format J
pub record HasJ (w op rd : ℕ) (offset : ℤ) : Type 0 where
  pub op_is : opcode w ≡ op
  pub rd_is : rd_of w ≡ rd
  pub imm_is : imm_j w ≡ offset
  pub small : w < 2 ^ 32

pub j_of : (op rd : ℕ) (offset : ℤ) → op < 128 → FitsJ rd offset → HasJ (pack_j op rd (low_bits 2097152 offset)) op rd offset
unfolding pack_j imm_j
j_of op rd offset a h =
    let n = low_bits 2097152 offset in
    let l = low_below 2097152 offset (omega arith) in
    let f3 = n / 4096 % 8 in
    let rs1 = n / 4096 / 8 % 32 in
    let rs2 = 2 * (n / 2 % 16) + n / 2048 % 2 in
    let f7 = n / 32 % 64 + 64 * (n / 1048576) in
    let f = fields_of op rd f3 rs1 rs2 f7 a h.0 (omega arith) (omega arith) (omega arith) in
    record {
      op_is = f.op_is;
      rd_is = f.rd_is;
      imm_is = rw (f.f3_is, f.rs1_is, f.rs2_is, f.f7_is) (ap (extended 1048576) (bits_21 n l (low_even_21 offset h.2)) ∙ extended_low_21 offset h.1);
      small = pack_below op rd f3 rs1 rs2 f7 a h.0 (omega arith) (omega arith) (omega arith) (omega arith);
    }

-- a word is what its fields pack
packed : (w : ℕ) → pack (opcode w) (rd_of w) (funct3 w) (rs1_of w) (rs2_of w) (funct7 w) ≡ w
unfolding pack opcode rd_of funct3 rs1_of rs2_of funct7
packed w = omega arith

pub rd_below : (w : ℕ) → rd_of w < 32
unfolding rd_of
rd_below w = omega arith

f3_below : (w : ℕ) → funct3 w < 8
unfolding funct3
f3_below w = omega arith

pub rs1_below : (w : ℕ) → rs1_of w < 32
unfolding rs1_of
rs1_below w = omega arith

pub rs2_below : (w : ℕ) → rs2_of w < 32
unfolding rs2_of
rs2_below w = omega arith

f7_below : (w : ℕ) → w < 2 ^ 32 → funct7 w < 128
unfolding funct7
f7_below w h = omega arith

-- the fields of any word fit, and pack to it again
pub back_r : (w op f3 f7 : ℕ) → opcode w ≡ op → funct3 w ≡ f3 → funct7 w ≡ f7 → pack op (rd_of w) f3 (rs1_of w) (rs2_of w) f7 ≡ w
back_r w op f3 f7 a b c = let p = packed w in cc

pub i_fits : (w : ℕ) → w < 2 ^ 32 → FitsI (rd_of w) (rs1_of w) (imm_i w)
unfolding imm_i
i_fits w h =
    let small = rs2_below w in
    let top = f7_below w h in
    (rd_below w, rs1_below w, extended_within 2048 (rs2_of w + 32 * funct7 w) (omega arith) (omega arith))

pub back_i : (w op f3 : ℕ) → w < 2 ^ 32 → opcode w ≡ op → funct3 w ≡ f3 → pack_i op (rd_of w) f3 (rs1_of w) (low_bits 4096 (imm_i w)) ≡ w
unfolding imm_i pack_i
back_i w op f3 h a b =
    let n = rs2_of w + 32 * funct7 w in
    let small = rs2_below w in
    let top = f7_below w h in
    let l = low_extended_12 n (omega arith) in
    let e : n % 32 ≡ rs2_of w = omega arith in
    let f : n / 32 ≡ funct7 w = omega arith in
    let p = packed w in
    cc

pub s_fits : (w : ℕ) → w < 2 ^ 32 → FitsS (rs1_of w) (rs2_of w) (imm_s w)
unfolding imm_s
s_fits w h =
    let small = rd_below w in
    let top = f7_below w h in
    (rs1_below w, rs2_below w, extended_within 2048 (rd_of w + 32 * funct7 w) (omega arith) (omega arith))

pub back_s : (w op f3 : ℕ) → w < 2 ^ 32 → opcode w ≡ op → funct3 w ≡ f3 → pack_s op f3 (rs1_of w) (rs2_of w) (low_bits 4096 (imm_s w)) ≡ w
unfolding imm_s pack_s
back_s w op f3 h a b =
    let n = rd_of w + 32 * funct7 w in
    let small = rd_below w in
    let top = f7_below w h in
    let l = low_extended_12 n (omega arith) in
    let e : n % 32 ≡ rd_of w = omega arith in
    let f : n / 32 ≡ funct7 w = omega arith in
    let p = packed w in
    cc

pub b_fits : (w : ℕ) → w < 2 ^ 32 → FitsB (rs1_of w) (rs2_of w) (imm_b w)
unfolding imm_b
b_fits w h =
    let n = 2 * (rd_of w / 2) + 32 * (funct7 w % 64) + 2048 * (rd_of w % 2) + 4096 * (funct7 w / 64) in
    let q = places_13 (rd_of w) (funct7 w) n (rd_below w) (f7_below w h) refl in
    let l = q.0 in
    (rs1_below w, rs2_below w, extended_within 4096 n (omega arith) (omega arith), even_extended_13 n l q.1)

pub back_b : (w op f3 : ℕ) → w < 2 ^ 32 → opcode w ≡ op → funct3 w ≡ f3 → pack_b op f3 (rs1_of w) (rs2_of w) (low_bits 8192 (imm_b w)) ≡ w
unfolding imm_b pack_b
back_b w op f3 h a b =
    let n = 2 * (rd_of w / 2) + 32 * (funct7 w % 64) + 2048 * (rd_of w % 2) + 4096 * (funct7 w / 64) in
    let q = places_13 (rd_of w) (funct7 w) n (rd_below w) (f7_below w h) refl in
    let l = low_extended_13 n q.0 in
    let e = q.2 in
    let f = q.3 in
    let p = packed w in
    cc

pub u_fits : (w : ℕ) → w < 2 ^ 32 → FitsU (rd_of w) (imm_u w)
unfolding imm_u
u_fits w h = (rd_below w, omega arith, omega arith)

pub back_u : (w op : ℕ) → opcode w ≡ op → pack_u op (rd_of w) (imm_u w) ≡ w
unfolding imm_u pack_u opcode rd_of
back_u w op a = omega arith

pub j_fits : (w : ℕ) → w < 2 ^ 32 → FitsJ (rd_of w) (imm_j w)
unfolding imm_j
j_fits w h =
    let n = 2 * (rs2_of w / 2 + 16 * (funct7 w % 64)) + 2048 * (rs2_of w % 2) + 4096 * (funct3 w + 8 * rs1_of w) + 1048576 * (funct7 w / 64) in
    let q = places_21 (funct3 w) (rs1_of w) (rs2_of w) (funct7 w) n (f3_below w) (rs1_below w) (rs2_below w) (f7_below w h) refl in
    let l = q.0 in
    (rd_below w, extended_within 1048576 n (omega arith) (omega arith), even_extended_21 n l q.1)

pub back_j : (w op : ℕ) → w < 2 ^ 32 → opcode w ≡ op → pack_j op (rd_of w) (low_bits 2097152 (imm_j w)) ≡ w
unfolding imm_j pack_j
back_j w op h a =
    let n = 2 * (rs2_of w / 2 + 16 * (funct7 w % 64)) + 2048 * (rs2_of w % 2) + 4096 * (funct3 w + 8 * rs1_of w) + 1048576 * (funct7 w / 64) in
    let q = places_21 (funct3 w) (rs1_of w) (rs2_of w) (funct7 w) n (f3_below w) (rs1_below w) (rs2_below w) (f7_below w h) refl in
    let l = low_extended_21 n q.0 in
    let e = q.2 in
    let f = q.3 in
    let g = q.4 in
    let k = q.5 in
    let p = packed w in
    cc
