-- What an instruction does to the registers, the pc and a view, and what a stretch of them does.
use Rattle.std.specs.Prelude.{◌≡◌, ℕ, zero, suc, ◌+◌, ◌-◌, ◌*◌, ◌%◌, ◌^◌, ◌==◌, ◌&&◌, nat_le, Bool, if◌then◌else◌, Option, Some, None, Result, Ok, Err, ℤ}
use Rattle.std.specs.Int.{w32, cast_unsigned}
use Rattle.nx_base.specs.declared.regs.Regs.{Regs}
use Rattle.nx_base.specs.Arithmetic.{alu_of, taken_of}
use Rattle.nx_base.specs.Registers.{reg, with_reg}
use Rattle.nx_base.specs.Views.{View, fetch_word, load_bytes, store_bytes}
use Rattle.nx_rv.specs.declared.inst.Inst.{Inst}
use Rattle.nx_rv.specs.declared.inst.Inst.TheVariants.{Lui, Auipc, Jal, Jalr, Branch, Load, Store, OpImm, Op, Fence, Ecall, Ebreak}
use Rattle.nx_rv.specs.Table.{decode_of}

-- a sum that wraps
unfoldable pub plus : ℕ → ℤ → ℕ
plus n z = (n + cast_unsigned w32 z) % 2 ^ 32

-- at the next instruction
unfoldable pub advance : Regs → Regs
advance r = record r { pc = (r.pc + 4) % 2 ^ 32 }

unfoldable pub jump : Regs → ℕ → Regs
jump r to = record r { pc = to }

-- what one instruction leads to
pub data Turn : Type 0 where
  Goes : (r : Regs) (v : View) → Turn
  Calls : (r : Regs) (v : View) → Turn
  Traps : (cause : ℕ) (r : Regs) (v : View) → Turn

-- a jump that keeps the address after it, or a misaligned target, which has cause 0
unfoldable pub linked : ℕ → ℕ → Regs → View → Turn
linked rd to r v = if to % 4 == 0 then Goes (jump (with_reg r rd ((r.pc + 4) % 2 ^ 32)) to) v else Traps 0 r v

-- a branch: where it is taken, to its target, or a misaligned one
unfoldable pub branched : Bool → ℕ → Regs → View → Turn
branched taken to r v = if taken then (if to % 4 == 0 then Goes (jump r to) v else Traps 0 r v) else Goes (advance r) v

-- what a load of some bytes puts into its register: a signed number is extended
unfoldable pub widened : ℕ → Bool → ℕ → ℕ
widened width signed n = if signed && nat_le (2 ^ (8 * width - 1)) n then n + (2 ^ 32 - 2 ^ (8 * width)) else n

unfoldable pub loaded : Result ℕ ℕ → ℕ → Bool → ℕ → Regs → View → Turn
loaded (Ok n) width signed rd r v = Goes (advance (with_reg r rd (widened width signed n))) v
loaded (Err cause) width signed rd r v = Traps cause r v

unfoldable pub stored : Result View ℕ → Regs → View → Turn
stored (Ok new) r v = Goes (advance r) new
stored (Err cause) r v = Traps cause r v

-- one instruction; a misaligned load has cause 4 and a misaligned store 6, before the view is asked; EBREAK has cause 3
unfoldable pub execute : Inst → Regs → View → Turn
execute (Lui rd imm) r v = Goes (advance (with_reg r rd imm)) v
execute (Auipc rd imm) r v = Goes (advance (with_reg r rd ((r.pc + imm) % 2 ^ 32))) v
execute (Jal rd offset) r v = linked rd (plus r.pc offset) r v
execute (Jalr rd rs1 imm) r v = linked rd (plus (reg r rs1) imm - plus (reg r rs1) imm % 2) r v
execute (Branch c rs1 rs2 offset) r v = branched (taken_of c (reg r rs1) (reg r rs2)) (plus r.pc offset) r v
execute (Load width signed rd rs1 imm) r v =
    if plus (reg r rs1) imm % width == 0 then loaded (load_bytes v (plus (reg r rs1) imm) width) width signed rd r v else Traps 4 r v
execute (Store width rs1 rs2 imm) r v =
    if plus (reg r rs1) imm % width == 0 then stored (store_bytes v (plus (reg r rs1) imm) width (reg r rs2)) r v else Traps 6 r v
execute (OpImm o rd rs1 imm) r v = Goes (advance (with_reg r rd (alu_of o (reg r rs1) (cast_unsigned w32 imm)))) v
execute (Op o rd rs1 rs2) r v = Goes (advance (with_reg r rd (alu_of o (reg r rs1) (reg r rs2)))) v
execute (Fence rd rs1 imm) r v = Goes (advance r) v
execute Ecall r v = Calls (advance r) v
execute Ebreak r v = Traps 3 r v

-- an illegal word has cause 2
unfoldable pub decoded : Option Inst → Regs → View → Turn
decoded None r v = Traps 2 r v
decoded (Some i) r v = execute i r v

unfoldable pub fetched : Result ℕ ℕ → Regs → View → Turn
fetched (Ok word) r v = decoded (decode_of word) r v
fetched (Err cause) r v = Traps cause r v

-- the instruction at the pc; a misaligned pc has cause 0
unfoldable pub turn : Regs → View → Turn
turn r v = if r.pc % 4 == 0 then fetched (fetch_word v r.pc) r v else Traps 0 r v

-- where a turn doesn't go on, nothing has changed except the pc of a call, which is after it
abbrev pub HaltsInPlace : Regs → View → Turn → Type 0
HaltsInPlace r v (Goes r' v') = Unit {0}
HaltsInPlace r v (Calls r' v') = (r' ≡ advance r) × (v' ≡ v)
HaltsInPlace r v (Traps cause r' v') = (r' ≡ r) × (v' ≡ v)

-- why a stretch ends
pub data Halt : Type 0 where
  Call : Halt
  Trap : (cause : ℕ) → Halt
  Fuel : Halt

-- how a stretch ends: the registers, the view, the instructions that are left, and why
pub record End : Type 0 where
  pub regs : Regs
  pub view : View
  pub left : ℕ
  pub halt : Halt

-- goes on after one instruction
abbrev pub after : Turn → ℕ → (Regs → View → End) → End
after (Goes r v) n go = go r v
after (Calls r v) n go = record { regs = r; view = v; left = n; halt = Call }
after (Traps cause r v) n go = record { regs = r; view = v; left = n; halt = Trap cause }

-- the table repeated until a call, a trap, or n instructions are made
unfoldable pub stretch : ℕ → Regs → View → End
stretch zero r v = record { regs = r; view = v; left = 0; halt = Fuel }
stretch (suc n) r v = after (turn r v) n (stretch n)

-- a stretch of exactly n instructions ends in a call
abbrev pub ReachesCall : ℕ → Regs → View → Regs → View → Type 0
ReachesCall n r v r' v' = stretch n r v ≡ record { regs = r'; view = v'; left = 0; halt = Call }
