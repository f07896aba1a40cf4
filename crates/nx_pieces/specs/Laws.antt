-- What pieces of code do.
use Rattle.std.specs.Prelude.{◌≡◌, ◌≢◌, ℕ, ◌+◌, ◌%◌, ◌^◌, ◌<◌, ◌≤◌, List, ◌++◌}
use Rattle.nx_base.specs.declared.regs.Regs.{Regs}
use Rattle.nx_base.specs.Views.{View}
use Rattle.nx_rv.specs.declared.inst.Inst.{Inst}
use Rattle.nx_slot.specs.declared.program.SlotFunction.{SlotFunction}
use Rattle.nx_codegen.specs.Cells.{IsCell}
use Rattle.nx_codegen.specs.Moves.{number_code, load_code, store_code, above_code, into_code, get_code, source, set_code, target}
use Rattle.nx_shown.specs.Bytes.{Bytes, number_at}
use Rattle.nx_shown.specs.Places.{Place, IsPlace}
use Rattle.nx_shown.specs.Leading.{At, IsWritten}
use Rattle.nx_pieces.specs.Parts.{IsCode, Ran, Sets}
use Rattle.nx_pieces.specs.Cells.{cell_word, Open, IsSpare, Saves, Got, Keeps, Wrote}

-- A number comes into a register.
abbrev pub NumbersAreMade : Type 0
NumbersAreMade = (e : Place) (r : Regs) (v : View) (pc rd n : ℕ) (t : ℕ → ℕ) (b : Bytes) → IsPlace e → n < 2 ^ 32 → IsWritten rd → IsCode e pc (number_code rd n) → At e r v pc t b → Sets e (number_code rd n) r v pc rd n t b

-- So does the address so many bytes above the stack pointer.
abbrev pub PlacesAreMade : Type 0
PlacesAreMade = (e : Place) (r : Regs) (v : View) (pc rd n : ℕ) (t : ℕ → ℕ) (b : Bytes) → IsPlace e → t 2 + n < 2 ^ 32 → IsWritten rd → rd ≢ 2 → IsCode e pc (above_code rd n) → At e r v pc t b → Sets e (above_code rd n) r v pc rd (t 2 + n) t b

-- A word of the open frame comes into a register, and a register's number into it.
abbrev pub WordsAreRead : Type 0
WordsAreRead = (e : Place) (g : SlotFunction) (sp : ℕ) (r : Regs) (v : View) (pc rd n : ℕ) (t : ℕ → ℕ) (b : Bytes) → Open e g sp → n + 4 ≤ g.frame → n % 4 ≡ 0 → IsWritten rd → rd ≢ 2 → t 2 ≡ sp
    → IsCode e pc (load_code rd n) → At e r v pc t b → Sets e (load_code rd n) r v pc rd (number_at b (sp + n) 4) t b

abbrev pub WordsAreWritten : Type 0
WordsAreWritten = (e : Place) (g : SlotFunction) (sp : ℕ) (r : Regs) (v : View) (pc rs n x : ℕ) (t : ℕ → ℕ) (b : Bytes) → Open e g sp → n + 4 ≤ g.frame → n % 4 ≡ 0 → rs ≢ 7 → t 2 ≡ sp → t rs ≡ x
    → IsCode e pc (store_code rs n) → At e r v pc t b → Saves e (store_code rs n) r v pc (sp + n) x t b

-- A cell's value comes into its own register or else a spare one, or into a stated one.
pub record CellReads (e : Place) (g : SlotFunction) (sp : ℕ) (r : Regs) (v : View) (pc i : ℕ) (t : ℕ → ℕ) (b : Bytes) : Type 0 where
  pub got : (s : ℕ) → IsSpare s → IsCode e pc (get_code g s i) → Got e (get_code g s i) r v pc s (source g s i) (cell_word g sp t b i) t b
  pub into : (rd : ℕ) → IsWritten rd → rd ≢ 2 → IsCode e pc (into_code g rd i) → Sets e (into_code g rd i) r v pc rd (cell_word g sp t b i) t b

abbrev pub CellsAreRead : Type 0
CellsAreRead = (e : Place) (g : SlotFunction) (sp : ℕ) (r : Regs) (v : View) (pc i : ℕ) (t : ℕ → ℕ) (b : Bytes) → Open e g sp → IsCell g i → t 2 ≡ sp → At e r v pc t b → CellReads e g sp r v pc i t b

-- Behind code that left a cell's new value in the register where it is set from, the cell is written.
abbrev pub CellsAreWritten : Type 0
CellsAreWritten = (e : Place) (g : SlotFunction) (sp : ℕ) (front : List Inst) (r : Regs) (v : View) (pc to x : ℕ) (t u w : ℕ → ℕ) (b : Bytes) → Open e g sp → IsCell g to → t 2 ≡ sp → Keeps t u → ((j : ℕ) → j ≢ target g to → w j ≡ u j) → w (target g to) ≡ x
    → IsCode e pc (front ++ set_code g to) → Ran e front r v pc w b → Wrote e g sp (front ++ set_code g to) r v pc to x t b
