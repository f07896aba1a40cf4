-- The instructions that a program is compiled to. nx_codegen will take its place.
use Rattle.std.specs.Prelude.{◌≡◌, ℕ, ◌+◌, ◌-◌, ◌*◌, ◌/◌, ◌%◌, List, [], ◌∷◌, ◌++◌, length, replicate, ℤ, pos, ◌-ℤ◌}
use Rattle.std.specs.List.{flat_map}
use Rattle.nx_base.specs.ByteLists.{to_le}
use Rattle.nx_base.specs.declared.operations.AluOp.TheVariants.{Add}
use Rattle.nx_rv.specs.declared.inst.Inst.{Inst}
use Rattle.nx_rv.specs.declared.inst.Inst.TheVariants.{Lui, Jal, Jalr, OpImm, Ecall}
use Rattle.nx_rv.specs.Table.{encode_of}
use Rattle.nx_gate.specs.declared.gate.Gate.{Gate}
use Rattle.nx_gate.specs.Proxies.{proxy_of}
use Rattle.nx_top.specs.first.Layout.{text_start}
use Rattle.nx_top.specs.first.Program.{Program}

abbrev pub addi : ℕ → ℕ → ℤ → Inst
addi rd rs1 imm = OpImm Add rd rs1 imm

-- a stub makes the call of its number, with what a function returned as the value
unfoldable pub stub : ℕ → List Inst
stub number = addi 11 10 (pos 0) ∷ addi 10 0 (pos number) ∷ Ecall ∷ []

-- the proxy of write, which has the number 16 and three parameters
unfoldable pub write_proxy : List Inst
write_proxy = proxy_of 16 3

-- the gate of write: the number 16, and three parameters
pub record IsWriteGate (gate : Gate) : Type 0 where
  pub number : gate.number ≡ 16
  pub three : length gate.kinds.items ≡ 3

-- a program has the proxies that it uses
unfoldable pub proxies : List (List ℕ) → List Inst
proxies [] = []
proxies (string ∷ strings) = write_proxy

abbrev pub proxy_at : ℕ
proxy_at = text_start + 24

unfoldable pub main_at : Program → ℕ
main_at p = text_start + 24 + 4 * length (proxies p.writes)

-- the literals stand after the main function, which has five instructions for a write, and three others
unfoldable pub literals_at : Program → ℕ
literals_at p = main_at p + 4 * (5 * length p.writes + 3)

-- an address as LUI and ADDI hold it
unfoldable pub upper : ℕ → ℕ
upper at = (at + 2048) / 4096 * 4096

unfoldable pub lower : ℕ → ℤ
lower at = pos at -ℤ pos (upper at)

-- write(1, the literal at an address, its length), from an address on
unfoldable pub write_code : ℕ → ℕ → ℕ → List Inst
write_code here literal count =
    addi 10 0 (pos 1) ∷ Lui 11 (upper literal) ∷ addi 11 11 (lower literal) ∷ addi 12 0 (pos count) ∷ Jal 1 (pos proxy_at -ℤ pos (here + 16)) ∷ []

-- the writes, from an address on, with their literals from another on, each with a zero byte after it
unfoldable pub writes_code : ℕ → ℕ → List (List ℕ) → List Inst
writes_code here literal [] = []
writes_code here literal (string ∷ strings) = write_code here literal (length string) ++ writes_code (here + 20) (literal + length string + 1) strings

-- the main function keeps its return address in register 8
unfoldable pub main_code : Program → List Inst
main_code p = addi 8 1 (pos 0) ∷ (writes_code (main_at p + 4) (literals_at p) p.writes ++ addi 10 0 (pos p.status) ∷ Jalr 0 8 (pos 0) ∷ [])

unfoldable pub insts_of : Program → List Inst
insts_of p = stub 1 ++ stub 2 ++ proxies p.writes ++ main_code p

-- the words of instructions, as bytes
unfoldable pub code_bytes : List Inst → List ℕ
code_bytes insts = flat_map (λ i. to_le 4 (encode_of i)) insts

unfoldable pub literals : List (List ℕ) → List ℕ
literals strings = flat_map (λ s. s ++ 0 ∷ []) strings

-- with zeros up to a multiple of 16
unfoldable pub padded : List ℕ → List ℕ
padded bytes = bytes ++ replicate ((16 - length bytes % 16) % 16) 0

unfoldable pub text_of : Program → List ℕ
text_of p = padded (code_bytes (insts_of p) ++ literals p.writes)

-- the address of each literal
unfoldable pub places_from : ℕ → List (List ℕ) → List ℕ
places_from at [] = []
places_from at (string ∷ strings) = at ∷ places_from (at + length string + 1) strings
