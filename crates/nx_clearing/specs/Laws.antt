-- What the instructions do that set an array to zeros.
use Rattle.std.specs.Prelude.{◌≡◌, ℕ, ◌+◌, ◌*◌, ◌/◌, ◌%◌, ◌<◌, ◌≤◌, ◌⊎◌, Some, length}
use Rattle.nx_base.specs.declared.regs.Regs.{Regs}
use Rattle.nx_base.specs.Views.{View}
use Rattle.nx_slot.specs.declared.program.SlotArray.{SlotArray}
use Rattle.nx_slot.specs.declared.program.SlotFunction.{SlotFunction}
use Rattle.nx_codegen.specs.Frames.{rounded, array_at}
use Rattle.nx_codegen.specs.Calling.{clear_code}
use Rattle.nx_shown.specs.Bytes.{Bytes}
use Rattle.nx_shown.specs.Places.{Place}
use Rattle.nx_shown.specs.Leading.{At, Next}
use Rattle.nx_pieces.specs.Parts.{IsCode}
use Rattle.nx_pieces.specs.Cells.{Open, Keeps}

-- So many words from an address on are zeros, after at most so many instructions.
pub record Cleared (e : Place) (at words most : ℕ) (r : Regs) (v : View) (to : ℕ) (t : ℕ → ℕ) (b : Bytes) : Type 0 where
  pub new : ℕ → ℕ
  pub bytes : Bytes
  pub count : ℕ
  pub next : Next e count r v to new bytes
  pub few : count ≤ most
  pub some : 1 ≤ count
  pub keeps : Keeps t new
  pub zeros : (c : ℕ) → at ≤ c → c < at + 4 * words → bytes c ≡ 0
  pub rest : (c : ℕ) → (c < at) ⊎ (at + 4 * words ≤ c) → bytes c ≡ b c

abbrev pub ArraysAreCleared : Type 0
ArraysAreCleared = (e : Place) (g : SlotFunction) (sp k : ℕ) (x : SlotArray) (r : Regs) (v : View) (pc : ℕ) (t : ℕ → ℕ) (b : Bytes) → Open e g sp → 1 ≤ x.bytes → array_at g k + rounded x.bytes ≤ g.frame → array_at g k % 4 ≡ 0 → t 2 ≡ sp
    → IsCode e pc (clear_code g k (Some x)) → At e r v pc t b → Cleared e (sp + array_at g k) ((x.bytes + 3) / 4) (3 * ((x.bytes + 3) / 4) + 6) r v (pc + 4 * length (clear_code g k (Some x))) t b
