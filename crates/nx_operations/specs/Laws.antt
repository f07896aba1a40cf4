-- What compiled operations on numbers do.
use Rattle.std.specs.Prelude.{◌≡◌, ◌≢◌, ℕ, ◌+◌, ◌*◌, ◌%◌, ◌^◌, ◌<◌, List}
use Rattle.nx_base.specs.declared.regs.Regs.{Regs}
use Rattle.nx_base.specs.Arithmetic.{flag}
use Rattle.nx_base.specs.Views.{View}
use Rattle.nx_rv.specs.declared.inst.Inst.{Inst}
use Rattle.nx_slot.specs.declared.op.Comparison.{Comparison}
use Rattle.nx_slot.specs.declared.op.Binary.{Binary}
use Rattle.nx_slot.specs.declared.op.Unary.{Unary}
use Rattle.nx_slot.specs.declared.op.Operand.{Operand}
use Rattle.nx_slot.specs.declared.op.Operand.TheVariants.{Cell, Number}
use Rattle.nx_slot.specs.declared.op.Width.{Width}
use Rattle.nx_slot.specs.declared.program.SlotFunction.{SlotFunction}
use Rattle.nx_slot.specs.Objects.{holds, binary, unary, bytes_of}
use Rattle.nx_codegen.specs.Cells.{IsCell}
use Rattle.nx_codegen.specs.Frames.{array_at}
use Rattle.nx_codegen.specs.Moves.{moved_code}
use Rattle.nx_codegen.specs.Operators.{compare_code, binary_code, constant_code, applied_code, unary_code, changed_code, indexed_code}
use Rattle.nx_codegen.specs.Code.{local_code, address_code}
use Rattle.nx_shown.specs.Bytes.{Bytes}
use Rattle.nx_shown.specs.Places.{Place, IsPlace}
use Rattle.nx_shown.specs.Leading.{At, IsWritten}
use Rattle.nx_pieces.specs.Parts.{IsCode, Ran, Sets}
use Rattle.nx_pieces.specs.Cells.{cell_word, Open, Wrote}

-- Code gives a number in a register. Register 6 is free.
pub record Gives (e : Place) (code : List Inst) (r : Regs) (v : View) (pc rd x : ℕ) (t : ℕ → ℕ) (b : Bytes) : Type 0 where
  pub new : ℕ → ℕ
  pub next : Ran e code r v pc new b
  pub is : new rd ≡ x
  pub others : (j : ℕ) → j ≢ rd → j ≢ 6 → new j ≡ t j

-- Operators on registers.
abbrev pub ComparisonsGive : Type 0
ComparisonsGive = (e : Place) (r : Regs) (v : View) (pc : ℕ) (t : ℕ → ℕ) (b : Bytes) (o : Comparison) (rd rs1 rs2 x y : ℕ) → IsPlace e → IsCode e pc (compare_code o rd rs1 rs2) → IsWritten rd → t rs1 ≡ x → t rs2 ≡ y → At e r v pc t b
    → Sets e (compare_code o rd rs1 rs2) r v pc rd (flag (holds o x y)) t b

abbrev pub BinariesGive : Type 0
BinariesGive = (e : Place) (r : Regs) (v : View) (pc : ℕ) (t : ℕ → ℕ) (b : Bytes) (o : Binary) (rd rs1 rs2 x y : ℕ) → IsPlace e → IsCode e pc (binary_code o rd rs1 rs2) → IsWritten rd → t rs1 ≡ x → t rs2 ≡ y → At e r v pc t b
    → Sets e (binary_code o rd rs1 rs2) r v pc rd (binary o x y) t b

abbrev pub ConstantsGive : Type 0
ConstantsGive = (e : Place) (r : Regs) (v : View) (pc : ℕ) (t : ℕ → ℕ) (b : Bytes) (o : Binary) (rd rs1 x n : ℕ) → IsPlace e → IsCode e pc (constant_code o rd rs1 n) → n < 2 ^ 32 → IsWritten rd → rs1 ≢ 6 → t rs1 ≡ x → At e r v pc t b
    → Gives e (constant_code o rd rs1 n) r v pc rd (binary o x n) t b

abbrev pub UnariesGive : Type 0
UnariesGive = (e : Place) (r : Regs) (v : View) (pc : ℕ) (t : ℕ → ℕ) (b : Bytes) (o : Unary) (rd rs1 x : ℕ) → IsPlace e → IsCode e pc (unary_code o rd rs1) → IsWritten rd → t rs1 ≡ x → At e r v pc t b
    → Sets e (unary_code o rd rs1) r v pc rd (unary o x) t b

-- An operand's number, which is one of 32 bits.
abbrev pub operand_word : SlotFunction → ℕ → (ℕ → ℕ) → Bytes → Operand → ℕ
operand_word g sp t b (Cell i) = cell_word g sp t b i
operand_word g sp t b (Number n) = n

abbrev pub IsShown : SlotFunction → Operand → Type 0
IsShown g (Cell i) = IsCell g i
IsShown g (Number n) = n < 2 ^ 32

-- What operations on the cells of an open frame write.
pub record Operations (e : Place) (g : SlotFunction) (sp : ℕ) (r : Regs) (v : View) (pc to : ℕ) (t : ℕ → ℕ) (b : Bytes) : Type 0 where
  pub moved : (from : Operand) → IsShown g from → IsCode e pc (moved_code g to from) → Wrote e g sp (moved_code g to from) r v pc to (operand_word g sp t b from) t b
  pub applied : (o : Binary) (left : ℕ) (right : Operand) → IsCell g left → IsShown g right → IsCode e pc (applied_code g o to left right)
      → Wrote e g sp (applied_code g o to left right) r v pc to (binary o (cell_word g sp t b left) (operand_word g sp t b right)) t b
  pub changed : (o : Unary) (from : ℕ) → IsCell g from → IsCode e pc (changed_code g o to from) → Wrote e g sp (changed_code g o to from) r v pc to (unary o (cell_word g sp t b from)) t b
  pub indexed : (base : ℕ) (index : Operand) (w : Width) → IsCell g base → IsShown g index → IsCode e pc (indexed_code g to base index w)
      → Wrote e g sp (indexed_code g to base index w) r v pc to ((cell_word g sp t b base + bytes_of w * operand_word g sp t b index) % 2 ^ 32) t b
  pub local : (k : ℕ) → sp + array_at g k < 2 ^ 32 → IsCode e pc (local_code g to k) → Wrote e g sp (local_code g to k) r v pc to (sp + array_at g k) t b
  pub address : (a : ℕ) → a < 2 ^ 32 → IsCode e pc (address_code g to a) → Wrote e g sp (address_code g to a) r v pc to a t b

abbrev pub OperationsWrite : Type 0
OperationsWrite = (e : Place) (g : SlotFunction) (sp : ℕ) (r : Regs) (v : View) (pc to : ℕ) (t : ℕ → ℕ) (b : Bytes) → Open e g sp → IsCell g to → t 2 ≡ sp → At e r v pc t b → Operations e g sp r v pc to t b
