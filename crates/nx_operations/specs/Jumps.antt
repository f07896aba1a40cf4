-- Where compiled jumps and tests lead. Places count bytes from a function's first instruction.
use Rattle.std.specs.Prelude.{◌≡◌, ℕ, ◌+◌, ◌*◌, ◌%◌, ◌^◌, ◌<◌, ◌≤◌, Bool, true, false, length}
use Rattle.nx_base.specs.declared.regs.Regs.{Regs}
use Rattle.nx_base.specs.Views.{View}
use Rattle.nx_slot.specs.declared.op.Comparison.{Comparison}
use Rattle.nx_slot.specs.declared.op.Operand.{Operand}
use Rattle.nx_slot.specs.declared.program.SlotFunction.{SlotFunction}
use Rattle.nx_slot.specs.Objects.{holds}
use Rattle.nx_codegen.specs.Cells.{IsCell}
use Rattle.nx_codegen.specs.Operators.{jump_code}
use Rattle.nx_codegen.specs.Code.{tested_code}
use Rattle.nx_shown.specs.Bytes.{Bytes}
use Rattle.nx_shown.specs.Places.{Place, IsPlace}
use Rattle.nx_shown.specs.Leading.{At, Next}
use Rattle.nx_pieces.specs.Parts.{IsCode}
use Rattle.nx_pieces.specs.Cells.{cell_word, Open, Keeps}
use Rattle.nx_operations.specs.Laws.{operand_word, IsShown}

-- One instruction or more, and at most so many, lead to a place, and leave the registers that a thread keeps, the temporaries and all bytes.
pub record Leads (e : Place) (most : ℕ) (r : Regs) (v : View) (to : ℕ) (t : ℕ → ℕ) (b : Bytes) : Type 0 where
  pub count : ℕ
  pub few : count ≤ most
  pub some : 1 ≤ count
  pub new : ℕ → ℕ
  pub next : Next e count r v to new b
  pub keeps : Keeps t new

-- A place of a function that stands at an address.
pub record IsThere (start there : ℕ) : Type 0 where
  pub aligned : (start + there) % 4 ≡ 0
  pub below : start + there < 2 ^ 32

abbrev pub JumpsLead : Type 0
JumpsLead = (e : Place) (r : Regs) (v : View) (start here there : ℕ) (near : Bool) (t : ℕ → ℕ) (b : Bytes) → IsPlace e → IsThere start there → IsCode e (start + here) (jump_code near here there) → At e r v (start + here) t b
    → Leads e (length (jump_code near here there)) r v (start + there) t b

-- Where a test holds, it leads behind its code, and else to the other place.
pub record Tests (e : Place) (g : SlotFunction) (test : Comparison) (left : ℕ) (right : Operand) (sp most : ℕ) (r : Regs) (v : View) (behind there : ℕ) (t : ℕ → ℕ) (b : Bytes) : Type 0 where
  pub holding : holds test (cell_word g sp t b left) (operand_word g sp t b right) ≡ true → Leads e most r v behind t b
  pub failing : holds test (cell_word g sp t b left) (operand_word g sp t b right) ≡ false → Leads e most r v there t b

abbrev pub TestsLead : Type 0
TestsLead = (e : Place) (g : SlotFunction) (sp : ℕ) (r : Regs) (v : View) (start here there : ℕ) (near : Bool) (test : Comparison) (left : ℕ) (right : Operand) (t : ℕ → ℕ) (b : Bytes) → Open e g sp → t 2 ≡ sp → IsCell g left → IsShown g right → IsThere start there
    → IsCode e (start + here) (tested_code near g test left right here there) → At e r v (start + here) t b
    → Tests e g test left right sp (length (tested_code near g test left right here there)) r v (start + here + 4 * length (tested_code near g test left right here there)) (start + there) t b
