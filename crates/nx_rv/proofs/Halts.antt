-- An instruction that traps, or calls, leaves everything as it was but the pc of a call.
use Rattle.std.proofs.Common.{ℕ, Bool, true, false, Option, Some, None, refl}
use Rattle.std.specs.Prelude.{Result, Ok, Err, if◌then◌else◌, ◌%◌, ◌==◌}
use Rattle.nx_base.specs.declared.regs.Regs.{Regs}
use Rattle.nx_base.specs.Views.{View, fetch_word}
use Rattle.nx_rv.specs.declared.inst.Inst.{Inst}
use Rattle.nx_rv.specs.declared.inst.Inst.TheVariants.{Lui, Auipc, Jal, Jalr, Branch, Load, Store, OpImm, Op, Fence, Ecall, Ebreak}
use Rattle.nx_rv.specs.Execution.{Turn, Traps, linked, branched, loaded, stored, execute, decoded, fetched, turn, HaltsInPlace}
use Rattle.nx_rv.specs.Table.{decode_of}

-- a trap in place, where a test fails
or_traps : (b : Bool) (t : Turn) (cause : ℕ) (r : Regs) (v : View) → HaltsInPlace r v t → HaltsInPlace r v (if b then t else Traps cause r v)
or_traps true t cause r v p = p
or_traps false t cause r v p = (refl, refl)

linked_halts : (rd to : ℕ) (r : Regs) (v : View) → HaltsInPlace r v (linked rd to r v)
unfolding linked
linked_halts rd to r v = or_traps (to % 4 == 0) _ _ r v tt

branched_halts : (b : Bool) (to : ℕ) (r : Regs) (v : View) → HaltsInPlace r v (branched b to r v)
unfolding branched
branched_halts true to r v = or_traps (to % 4 == 0) _ _ r v tt
branched_halts false to r v = tt

loaded_halts : (q : Result ℕ ℕ) (width : ℕ) (signed : Bool) (rd : ℕ) (r : Regs) (v : View) → HaltsInPlace r v (loaded q width signed rd r v)
unfolding loaded
loaded_halts (Ok n) width signed rd r v = tt
loaded_halts (Err cause) width signed rd r v = (refl, refl)

stored_halts : (q : Result View ℕ) (r : Regs) (v : View) → HaltsInPlace r v (stored q r v)
unfolding stored
stored_halts (Ok new) r v = tt
stored_halts (Err cause) r v = (refl, refl)

execute_halts : (i : Inst) (r : Regs) (v : View) → HaltsInPlace r v (execute i r v)
unfolding execute
execute_halts (Lui rd imm) r v = tt
execute_halts (Auipc rd imm) r v = tt
execute_halts (Jal rd offset) r v = linked_halts rd _ r v
execute_halts (Jalr rd rs1 imm) r v = linked_halts rd _ r v
execute_halts (Branch c rs1 rs2 offset) r v = branched_halts _ _ r v
execute_halts (Load width signed rd rs1 imm) r v = or_traps _ _ _ r v (loaded_halts _ width signed rd r v)
execute_halts (Store width rs1 rs2 imm) r v = or_traps _ _ _ r v (stored_halts _ r v)
execute_halts (OpImm o rd rs1 imm) r v = tt
execute_halts (Op o rd rs1 rs2) r v = tt
execute_halts (Fence rd rs1 imm) r v = tt
execute_halts Ecall r v = (refl, refl)
execute_halts Ebreak r v = (refl, refl)

decoded_halts : (o : Option Inst) (r : Regs) (v : View) → HaltsInPlace r v (decoded o r v)
unfolding decoded
decoded_halts None r v = (refl, refl)
decoded_halts (Some i) r v = execute_halts i r v

fetched_halts : (q : Result ℕ ℕ) (r : Regs) (v : View) → HaltsInPlace r v (fetched q r v)
unfolding fetched
fetched_halts (Ok word) r v = decoded_halts (decode_of word) r v
fetched_halts (Err cause) r v = (refl, refl)

pub turn_halts : (r : Regs) (v : View) → HaltsInPlace r v (turn r v)
unfolding turn
turn_halts r v = or_traps (r.pc % 4 == 0) _ _ r v (fetched_halts (fetch_word v r.pc) r v)
