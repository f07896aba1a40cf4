-- The cells of an open frame: what the machine holds of them, and code that reads and writes one.
use Rattle.std.specs.Prelude.{◌≡◌, ◌≢◌, ℕ, ◌+◌, ◌%◌, ◌<◌, ◌≤◌, ◌⊎◌, if◌then◌else◌, List}
use Rattle.nx_base.specs.declared.regs.Regs.{Regs}
use Rattle.nx_base.specs.Views.{View}
use Rattle.nx_rv.specs.declared.inst.Inst.{Inst}
use Rattle.nx_slot.specs.declared.program.SlotFunction.{SlotFunction}
use Rattle.nx_codegen.specs.Frames.{IsFunction, in_register, register_of, cell_at, words_end}
use Rattle.nx_codegen.specs.Cells.{IsCell}
use Rattle.nx_shown.specs.Bytes.{Bytes, number_at, with_number}
use Rattle.nx_shown.specs.Places.{Place, IsPlace}
use Rattle.nx_pieces.specs.Parts.{Ran}

-- What the machine holds of a cell: its register, or its word above the stack pointer.
unfoldable pub cell_word : SlotFunction → ℕ → (ℕ → ℕ) → Bytes → ℕ → ℕ
cell_word g sp t b i = if in_register g i then t (register_of g i) else number_at b (sp + cell_at g i) 4

-- A function's frame stands in the stack.
pub record Open (e : Place) (g : SlotFunction) (sp : ℕ) : Type 0 where
  pub place : IsPlace e
  pub function : IsFunction g
  pub low : e.low ≤ sp
  pub top : sp + g.frame ≤ e.top
  pub aligned : sp % 16 ≡ 0

-- A register that is no cell's, and that no thread keeps.
abbrev pub IsSpare : ℕ → Type 0
IsSpare s = (5 ≤ s) × (s < 18)

-- Code puts a word at an address. Register 7 is free.
pub record Saves (e : Place) (code : List Inst) (r : Regs) (v : View) (pc a x : ℕ) (t : ℕ → ℕ) (b : Bytes) : Type 0 where
  pub new : ℕ → ℕ
  pub next : Ran e code r v pc new (with_number b a 4 x)
  pub others : (j : ℕ) → j ≢ 7 → new j ≡ t j

-- Code brings a value into a register, which may hold it before. A spare register may change.
pub record Got (e : Place) (code : List Inst) (r : Regs) (v : View) (pc spare rd x : ℕ) (t : ℕ → ℕ) (b : Bytes) : Type 0 where
  pub new : ℕ → ℕ
  pub next : Ran e code r v pc new b
  pub is : new rd ≡ x
  pub others : (j : ℕ) → j ≢ spare → new j ≡ t j

-- The registers that a thread keeps, and those of the temporaries, are as they were.
pub record Keeps (t u : ℕ → ℕ) : Type 0 where
  pub fixed : (j : ℕ) → 2 ≤ j → j < 5 → u j ≡ t j
  pub temporaries : (j : ℕ) → 18 ≤ j → u j ≡ t j

-- Code writes one cell, and leaves the other cells, the registers that a thread keeps and all other bytes.
pub record Wrote (e : Place) (g : SlotFunction) (sp : ℕ) (code : List Inst) (r : Regs) (v : View) (pc to x : ℕ) (t : ℕ → ℕ) (b : Bytes) : Type 0 where
  pub new : ℕ → ℕ
  pub bytes : Bytes
  pub next : Ran e code r v pc new bytes
  pub fixed : (j : ℕ) → 2 ≤ j → j < 5 → new j ≡ t j
  pub is : cell_word g sp new bytes to ≡ x
  pub others : (i : ℕ) → IsCell g i → i ≢ to → cell_word g sp new bytes i ≡ cell_word g sp t b i
  pub rest : (c : ℕ) → (c < sp + 4) ⊎ (sp + words_end g ≤ c) → bytes c ≡ b c
