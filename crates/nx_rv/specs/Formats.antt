-- The fields of an instruction word, and the formats that hold its immediate.
use Rattle.std.specs.Prelude.{ℕ, ◌+◌, ◌-◌, ◌*◌, ◌/◌, ◌%◌, ◌^◌, ◌<◌, nat_lt, if◌then◌else◌, ℤ, pos, negsuc}
use Rattle.std.specs.Int.{w32, cast_signed, cast_unsigned}

-- a word from its fields: opcode, rd, funct3, rs1, rs2, funct7
unfoldable pub pack : ℕ → ℕ → ℕ → ℕ → ℕ → ℕ → ℕ
pack op rd f3 rs1 rs2 f7 = op + 128 * (rd + 32 * (f3 + 8 * (rs1 + 32 * (rs2 + 32 * f7))))

unfoldable pub opcode : ℕ → ℕ
opcode w = w % 128

unfoldable pub rd_of : ℕ → ℕ
rd_of w = w / 128 % 32

unfoldable pub funct3 : ℕ → ℕ
funct3 w = w / 128 / 32 % 8

unfoldable pub rs1_of : ℕ → ℕ
rs1_of w = w / 128 / 32 / 8 % 32

unfoldable pub rs2_of : ℕ → ℕ
rs2_of w = w / 128 / 32 / 8 / 32 % 32

unfoldable pub funct7 : ℕ → ℕ
funct7 w = w / 128 / 32 / 8 / 32 / 32

-- a number of fewer bits, whose sign is at half its range, as one of 32
unfoldable pub extended : ℕ → ℕ → ℤ
extended half n = cast_signed w32 (if nat_lt n half then n else n + (2 ^ 32 - 2 * half))

-- the low bits of a number
unfoldable pub low_bits : ℕ → ℤ → ℕ
low_bits m z = cast_unsigned w32 z % m

-- from -half to half - 1
abbrev pub IsWithin : ℕ → ℤ → Type 0
IsWithin half (pos n) = n < half
IsWithin half (negsuc n) = n < half

-- I: bits 11 to 0 stand in funct7 and rs2
unfoldable pub imm_i : ℕ → ℤ
imm_i w = extended 2048 (rs2_of w + 32 * funct7 w)

unfoldable pub pack_i : ℕ → ℕ → ℕ → ℕ → ℕ → ℕ
pack_i op rd f3 rs1 n = pack op rd f3 rs1 (n % 32) (n / 32)

-- U: bits 31 to 12 stand where they are
unfoldable pub imm_u : ℕ → ℕ
imm_u w = w / 4096 * 4096

unfoldable pub pack_u : ℕ → ℕ → ℕ → ℕ
pack_u op rd imm = op + 128 * rd + imm

-- J: bits 4 to 1 and 11 stand in rs2, 10 to 5 and 20 in funct7, 19 to 12 in funct3 and rs1
unfoldable pub imm_j : ℕ → ℤ
imm_j w = extended 1048576 (2 * (rs2_of w / 2 + 16 * (funct7 w % 64)) + 2048 * (rs2_of w % 2) + 4096 * (funct3 w + 8 * rs1_of w) + 1048576 * (funct7 w / 64))

unfoldable pub pack_j : ℕ → ℕ → ℕ → ℕ
pack_j op rd n = pack op rd (n / 4096 % 8) (n / 4096 / 8 % 32) (2 * (n / 2 % 16) + n / 2048 % 2) (n / 32 % 64 + 64 * (n / 1048576))

-- S: bits 4 to 0 stand in rd, 11 to 5 in funct7
unfoldable pub imm_s : ℕ → ℤ
imm_s w = extended 2048 (rd_of w + 32 * funct7 w)

unfoldable pub pack_s : ℕ → ℕ → ℕ → ℕ → ℕ → ℕ
pack_s op f3 rs1 rs2 n = pack op (n % 32) f3 rs1 rs2 (n / 32)

-- B: bits 4 to 1 and 11 stand in rd, 10 to 5 and 12 in funct7
unfoldable pub imm_b : ℕ → ℤ
imm_b w = extended 4096 (2 * (rd_of w / 2) + 32 * (funct7 w % 64) + 2048 * (rd_of w % 2) + 4096 * (funct7 w / 64))

unfoldable pub pack_b : ℕ → ℕ → ℕ → ℕ → ℕ → ℕ
pack_b op f3 rs1 rs2 n = pack op (2 * (n / 2 % 16) + n / 2048 % 2) f3 rs1 rs2 (n / 32 % 64 + 64 * (n / 4096))
