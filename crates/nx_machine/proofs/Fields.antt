-- Fields of instructions that are in range.
use Rattle.std.proofs.Common.{ℕ, ◌<◌, Bool, true, false, ⊎_elim, inl, inr}
use Rattle.std.specs.Prelude.{ℤ}
use Rattle.nx_base.specs.declared.operations.AluOp.{AluOp}
use Rattle.nx_base.specs.declared.operations.AluOp.TheVariants as op
use Rattle.nx_ram.specs.Widths.{IsWidth}
use Rattle.nx_rv.specs.Table.{IsLoad, FitsOpImm}

pub load_width : (width : ℕ) (signed : Bool) → IsLoad width signed → IsWidth width
load_width width true h = h
load_width width false h = ⊎_elim (λ l. inl l) (λ r. inr (inl r)) h

both : (o : AluOp) (rd rs1 : ℕ) (imm : ℤ) → FitsOpImm o rd rs1 imm → (rd < 32) × (rs1 < 32)
both op.Add rd rs1 imm h = (h.0, h.1)
both op.Slt rd rs1 imm h = (h.0, h.1)
both op.Sltu rd rs1 imm h = (h.0, h.1)
both op.Xor rd rs1 imm h = (h.0, h.1)
both op.Or rd rs1 imm h = (h.0, h.1)
both op.And rd rs1 imm h = (h.0, h.1)
both op.Sll rd rs1 imm h = (h.0, h.1)
both op.Srl rd rs1 imm h = (h.0, h.1)
both op.Sra rd rs1 imm h = (h.0, h.1)
both op.Sub rd rs1 imm h = absurd h
both op.Mul rd rs1 imm h = absurd h
both op.Mulh rd rs1 imm h = absurd h
both op.Mulhsu rd rs1 imm h = absurd h
both op.Mulhu rd rs1 imm h = absurd h
both op.Div rd rs1 imm h = absurd h
both op.Divu rd rs1 imm h = absurd h
both op.Rem rd rs1 imm h = absurd h
both op.Remu rd rs1 imm h = absurd h

pub op_imm_rd : (o : AluOp) (rd rs1 : ℕ) (imm : ℤ) → FitsOpImm o rd rs1 imm → rd < 32
op_imm_rd o rd rs1 imm h = (both o rd rs1 imm h).0

pub op_imm_rs1 : (o : AluOp) (rd rs1 : ℕ) (imm : ℤ) → FitsOpImm o rd rs1 imm → rs1 < 32
op_imm_rs1 o rd rs1 imm h = (both o rd rs1 imm h).1
