-- What the entry and the return of a compiled function do.
use Rattle.std.specs.Prelude.{◌≡◌, ℕ, ◌+◌, ◌-◌, ◌%◌, ◌*◌, ◌<◌, ◌≤◌, ◌⊎◌, length}
use Rattle.nx_base.specs.declared.regs.Regs.{Regs}
use Rattle.nx_base.specs.Views.{View}
use Rattle.nx_slot.specs.declared.op.Operand.{Operand}
use Rattle.nx_slot.specs.declared.program.SlotFunction.{SlotFunction}
use Rattle.nx_codegen.specs.Frames.{cell_at, words_end}
use Rattle.nx_codegen.specs.Calling.{enter_code}
use Rattle.nx_codegen.specs.Code.{give_code}
use Rattle.nx_shown.specs.Bytes.{Bytes, number_at}
use Rattle.nx_shown.specs.Places.{Place, IsPlace}
use Rattle.nx_shown.specs.Leading.{At, Next, Reaches}
use Rattle.nx_pieces.specs.Parts.{IsCode}
use Rattle.nx_pieces.specs.Cells.{Open}
use Rattle.nx_operations.specs.Laws.{operand_word, IsShown}

-- Before a thread's first entry register 3 has 0, and the stack pointer is the stack's end; from then on register 3 has it.
abbrev pub KnowsTop : Place → (ℕ → ℕ) → Type 0
KnowsTop e t = (t 3 ≡ e.top) ⊎ ((t 3 ≡ 0) × (t 2 ≡ e.top))

-- A function is entered: its frame is open, the return address and the arguments are in it, and no other byte changed.
pub record Entered (e : Place) (g : SlotFunction) (sp : ℕ) (r : Regs) (v : View) (pc : ℕ) (t : ℕ → ℕ) (b : Bytes) : Type 0 where
  pub new : ℕ → ℕ
  pub bytes : Bytes
  pub count : ℕ
  pub next : Next e count r v (pc + 4 * length (enter_code g)) new bytes
  pub few : count + 3 ≤ length (enter_code g)
  pub some : 1 ≤ count
  pub pointer : new 2 ≡ sp
  pub top : new 3 ≡ e.top
  pub low : new 4 ≡ t 4
  pub back : number_at bytes sp 4 ≡ t 1
  pub words : (j : ℕ) → j < g.params → number_at bytes (sp + cell_at g j) 4 ≡ t (10 + j)
  pub rest : (c : ℕ) → (c < sp) ⊎ (sp + words_end g ≤ c) → bytes c ≡ b c

abbrev pub EntriesOpen : Type 0
EntriesOpen = (e : Place) (g : SlotFunction) (sp : ℕ) (r : Regs) (v : View) (pc : ℕ) (t : ℕ → ℕ) (b : Bytes) → Open e g sp → 1 ≤ g.frame → t 2 ≡ sp + g.frame → t 4 ≡ e.low → KnowsTop e t → IsCode e pc (enter_code g) → At e r v pc t b → Entered e g sp r v pc t b

-- Its frame goes below the stack: call 0 is made with the need, and no byte changed.
pub record Told (e : Place) (g : SlotFunction) (need : ℕ) (r : Regs) (v : View) (pc : ℕ) (b : Bytes) : Type 0 where
  pub new : ℕ → ℕ
  pub behind : ℕ
  pub count : ℕ
  pub reaches : Reaches e count r v behind new b
  pub few : count ≤ 9
  pub number : new 10 ≡ 0
  pub need_is : new 11 ≡ need

abbrev pub EntriesTell : Type 0
EntriesTell = (e : Place) (g : SlotFunction) (r : Regs) (v : View) (pc : ℕ) (t : ℕ → ℕ) (b : Bytes) → IsPlace e → 1 ≤ g.frame → g.frame ≤ t 2 → t 2 ≤ e.top → t 2 - g.frame < e.low → t 4 ≡ e.low → KnowsTop e t → IsCode e pc (enter_code g) → At e r v pc t b
    → Told e g (e.top - (t 2 - g.frame)) r v pc b

-- A return leads to where the function was called, with a value.
pub record Returned (e : Place) (g : SlotFunction) (sp x to count : ℕ) (r : Regs) (v : View) (t : ℕ → ℕ) (b : Bytes) : Type 0 where
  pub new : ℕ → ℕ
  pub next : Next e count r v to new b
  pub value : new 10 ≡ x
  pub pointer : new 2 ≡ sp + g.frame
  pub fixed : (j : ℕ) → 3 ≤ j → j < 5 → new j ≡ t j

abbrev pub ReturnsLead : Type 0
ReturnsLead = (e : Place) (g : SlotFunction) (sp : ℕ) (r : Regs) (v : View) (pc : ℕ) (value : Operand) (t : ℕ → ℕ) (b : Bytes) → Open e g sp → IsShown g value → t 2 ≡ sp → number_at b sp 4 % 4 ≡ 0 → IsCode e pc (give_code g value) → At e r v pc t b
    → Returned e g sp (operand_word g sp t b value) (number_at b sp 4) (length (give_code g value)) r v t b
