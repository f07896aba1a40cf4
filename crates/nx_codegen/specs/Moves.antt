-- Instructions that move numbers between cells, registers and the frame.
use Rattle.std.specs.Prelude.{ℕ, ◌==◌, true, nat_lt, if◌then◌else◌, List, [], ◌∷◌, ◌++◌, ℤ, pos}
use Rattle.nx_base.specs.declared.operations.AluOp.TheVariants as alu
use Rattle.nx_rv.specs.declared.inst.Inst.{Inst}
use Rattle.nx_rv.specs.declared.inst.Inst.TheVariants.{Lui, Load, Store, OpImm, Op}
use Rattle.nx_slot.specs.declared.op.Operand.{Operand}
use Rattle.nx_slot.specs.declared.op.Operand.TheVariants.{Cell, Number}
use Rattle.nx_slot.specs.declared.program.SlotFunction.{SlotFunction}
use Rattle.nx_codegen.specs.Addresses.{upper, lower}
use Rattle.nx_codegen.specs.Frames.{in_register, register_of, cell_at}

abbrev pub addi : ℕ → ℕ → ℤ → Inst
addi rd rs1 imm = OpImm alu.Add rd rs1 imm

-- A number into a register.
unfoldable pub number_code : ℕ → ℕ → List Inst
number_code rd n = if upper n == 0 then addi rd 0 (lower n) ∷ [] else Lui rd (upper n) ∷ addi rd rd (lower n) ∷ []

-- A word of the frame into a register, and back.
unfoldable pub load_code : ℕ → ℕ → List Inst
load_code rd at = if nat_lt at 2048 then Load 4 true rd 2 (pos at) ∷ [] else Lui rd (upper at) ∷ Op alu.Add rd rd 2 ∷ Load 4 true rd rd (lower at) ∷ []

unfoldable pub store_code : ℕ → ℕ → List Inst
store_code rs at = if nat_lt at 2048 then Store 4 2 rs (pos at) ∷ [] else Lui 7 (upper at) ∷ Op alu.Add 7 7 2 ∷ Store 4 7 rs (lower at) ∷ []

-- The address so many bytes above the stack pointer.
unfoldable pub above_code : ℕ → ℕ → List Inst
above_code rd n = if nat_lt n 2048 then addi rd 2 (pos n) ∷ [] else number_code rd n ++ Op alu.Add rd rd 2 ∷ []

-- A cell's value into this register.
unfoldable pub into_code : SlotFunction → ℕ → ℕ → List Inst
into_code g rd i = if in_register g i then addi rd (register_of g i) (pos 0) ∷ [] else load_code rd (cell_at g i)

-- A cell's value into its own register, or else into a spare one.
unfoldable pub get_code : SlotFunction → ℕ → ℕ → List Inst
get_code g spare i = if in_register g i then [] else load_code spare (cell_at g i)

unfoldable pub source : SlotFunction → ℕ → ℕ → ℕ
source g spare i = if in_register g i then register_of g i else spare

-- A cell's new value out of its own register, or else out of register 5.
unfoldable pub set_code : SlotFunction → ℕ → List Inst
set_code g i = if in_register g i then [] else store_code 5 (cell_at g i)

abbrev pub target : SlotFunction → ℕ → ℕ
target g i = source g 5 i

unfoldable pub move_code : SlotFunction → ℕ → ℕ → List Inst
move_code g to from =
    if in_register g to then into_code g (register_of g to) from
    else get_code g 5 from ++ store_code (source g 5 from) (cell_at g to)

abbrev pub moved_code : SlotFunction → ℕ → Operand → List Inst
moved_code g to (Cell from) = move_code g to from
moved_code g to (Number n) = number_code (target g to) n ++ set_code g to

-- An operand's value into this register.
abbrev pub operand_code : SlotFunction → ℕ → Operand → List Inst
operand_code g rd (Cell i) = into_code g rd i
operand_code g rd (Number n) = number_code rd n

-- What a call answered, which is in register 10, into a cell.
unfoldable pub answer_code : SlotFunction → ℕ → List Inst
answer_code g i = addi (target g i) 10 (pos 0) ∷ set_code g i
