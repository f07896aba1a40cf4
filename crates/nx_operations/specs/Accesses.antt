-- What compiled accesses to memory do.
use Rattle.std.specs.Prelude.{◌≡◌, ℕ, ◌%◌, ◌^◌, ◌<◌, List}
use Rattle.nx_base.specs.declared.regs.Regs.{Regs}
use Rattle.nx_base.specs.Views.{View}
use Rattle.nx_rv.specs.declared.inst.Inst.{Inst}
use Rattle.nx_slot.specs.declared.op.Width.{Width}
use Rattle.nx_slot.specs.declared.program.SlotFunction.{SlotFunction}
use Rattle.nx_slot.specs.Objects.{bytes_of}
use Rattle.nx_codegen.specs.Cells.{IsCell}
use Rattle.nx_codegen.specs.Operators.{loaded_code, stored_code}
use Rattle.nx_codegen.specs.Code.{fetch_code, keep_code}
use Rattle.nx_shown.specs.Bytes.{Bytes, number_at, with_number}
use Rattle.nx_shown.specs.Places.{Place, MayRead, MayWrite}
use Rattle.nx_shown.specs.Leading.{At}
use Rattle.nx_pieces.specs.Parts.{IsCode, Ran}
use Rattle.nx_pieces.specs.Cells.{cell_word, Open, Keeps, Wrote}

-- Code puts a number of so many bytes at an address, and leaves the registers that a thread keeps and the temporaries.
pub record Puts (e : Place) (code : List Inst) (r : Regs) (v : View) (pc a n x : ℕ) (t : ℕ → ℕ) (b : Bytes) : Type 0 where
  pub new : ℕ → ℕ
  pub next : Ran e code r v pc new (with_number b a n x)
  pub keeps : Keeps t new

-- Elements and named numbers come into cells, and cells into them.
pub record Accesses (e : Place) (g : SlotFunction) (sp : ℕ) (r : Regs) (v : View) (pc : ℕ) (t : ℕ → ℕ) (b : Bytes) : Type 0 where
  pub loaded : (to place a : ℕ) (w : Width) → IsCell g to → IsCell g place → cell_word g sp t b place ≡ a → a % bytes_of w ≡ 0 → MayRead e a (bytes_of w) → IsCode e pc (loaded_code g to place w)
      → Wrote e g sp (loaded_code g to place w) r v pc to (number_at b a (bytes_of w)) t b
  pub stored : (place value a : ℕ) (w : Width) → IsCell g place → IsCell g value → cell_word g sp t b place ≡ a → a % bytes_of w ≡ 0 → MayWrite e a (bytes_of w) → IsCode e pc (stored_code g place value w)
      → Puts e (stored_code g place value w) r v pc a (bytes_of w) (cell_word g sp t b value) t b
  pub fetched : (to a : ℕ) → IsCell g to → a < 2 ^ 32 → a % 4 ≡ 0 → MayRead e a 4 → IsCode e pc (fetch_code g to a) → Wrote e g sp (fetch_code g to a) r v pc to (number_at b a 4) t b
  pub kept : (from a : ℕ) → IsCell g from → a < 2 ^ 32 → a % 4 ≡ 0 → MayWrite e a 4 → IsCode e pc (keep_code g from a) → Puts e (keep_code g from a) r v pc a 4 (cell_word g sp t b from) t b

abbrev pub AccessesAreMade : Type 0
AccessesAreMade = (e : Place) (g : SlotFunction) (sp : ℕ) (r : Regs) (v : View) (pc : ℕ) (t : ℕ → ℕ) (b : Bytes) → Open e g sp → t 2 ≡ sp → At e r v pc t b → Accesses e g sp r v pc t b
