-- Where instructions lead, over registers and bytes as functions.
use Rattle.std.specs.Prelude.{◌≡◌, ℕ, ◌+◌, ◌%◌, ◌^◌, ◌<◌, ◌≤◌, ◌==◌, Bool, true, false, List, [], ◌∷◌, length, ℤ, Ok}
use Rattle.std.specs.Int.{w32, cast_unsigned}
use Rattle.nx_base.specs.declared.regs.Regs.{Regs}
use Rattle.nx_base.specs.declared.operations.AluOp.{AluOp}
use Rattle.nx_base.specs.declared.operations.Cond.{Cond}
use Rattle.nx_base.specs.Arithmetic.{alu_of, taken_of}
use Rattle.nx_base.specs.Registers.{reg}
use Rattle.nx_base.specs.Views.{View, load_bytes, store_bytes}
use Rattle.nx_rv.specs.declared.inst.Inst.{Inst}
use Rattle.nx_rv.specs.declared.inst.Inst.TheVariants.{Lui, Auipc, Jal, Jalr, Branch, Load, Store, OpImm, Op, Ecall}
use Rattle.nx_rv.specs.Execution.{plus, widened, stretch, Call}
use Rattle.nx_shown.specs.Bytes.{Bytes, put, number_at, with_number}
use Rattle.nx_shown.specs.Places.{Place, AreHere, HasText, IsPlace, Sees, MayWrite, MayRead, Only}

-- A thread of a place stands at an address, with these registers and these bytes.
pub record At (e : Place) (r : Regs) (v : View) (pc : ℕ) (t : ℕ → ℕ) (b : Bytes) : Type 0 where
  pub pc_is : r.pc ≡ pc
  pub aligned : pc % 4 ≡ 0
  pub size : length r.x ≡ 32
  pub holds : (k : ℕ) → reg r k ≡ t k
  pub zero : t 0 ≡ 0
  pub small : (k : ℕ) → t k < 2 ^ 32
  pub sees : Sees e v b

-- Instructions stand at an address in each view that has the place's text.
abbrev pub Stands : Place → ℕ → List Inst → Type 0
Stands e at is = (v : View) → HasText v e.pieces → AreHere v at is

-- So many instructions lead to another state, however many more there are to make.
pub record Next (e : Place) (n : ℕ) (r : Regs) (v : View) (pc : ℕ) (t : ℕ → ℕ) (b : Bytes) : Type 0 where
  pub regs : Regs
  pub view : View
  pub only : Only e v view
  pub leads : (k : ℕ) → stretch (k + n) r v ≡ stretch k regs view
  pub at : At e regs view pc t b

-- So many instructions lead to a call, and this is the state behind it.
pub record Reaches (e : Place) (n : ℕ) (r : Regs) (v : View) (pc : ℕ) (t : ℕ → ℕ) (b : Bytes) : Type 0 where
  pub regs : Regs
  pub view : View
  pub only : Only e v view
  pub reaches : (k : ℕ) → stretch (k + n) r v ≡ record { regs = regs; view = view; left = k; halt = Call }
  pub at : At e regs view pc t b

-- A store of so many bytes is made, and shows there.
pub record Kept (e : Place) (v : View) (a n x : ℕ) (b : Bytes) : Type 0 where
  pub new : View
  pub is : store_bytes v a n x ≡ Ok new
  pub sees : Sees e new (with_number b a n x)
  pub only : Only e v new

-- A register other than 0.
abbrev pub IsWritten : ℕ → Type 0
IsWritten rd = ((rd == 0) ≡ false) × (rd < 32)

-- What each kind of instruction does that stands at the pc.
pub record Instructions (e : Place) (r : Regs) (v : View) (pc : ℕ) (t : ℕ → ℕ) (b : Bytes) : Type 0 where
  pub lui : (rd imm : ℕ) → Stands e pc (Lui rd imm ∷ []) → pc + 4 < 2 ^ 32 → (rd == 0) ≡ false → Next e 1 r v (pc + 4) (put t rd imm) b
  pub auipc : (rd imm : ℕ) → Stands e pc (Auipc rd imm ∷ []) → pc + 4 < 2 ^ 32 → (rd == 0) ≡ false → Next e 1 r v (pc + 4) (put t rd ((pc + imm) % 2 ^ 32)) b
  pub immediate : (o : AluOp) (rd rs1 x y : ℕ) (imm : ℤ) → Stands e pc (OpImm o rd rs1 imm ∷ []) → pc + 4 < 2 ^ 32 → IsWritten rd → t rs1 ≡ x → alu_of o x (cast_unsigned w32 imm) ≡ y → y < 2 ^ 32
      → Next e 1 r v (pc + 4) (put t rd y) b
  pub operation : (o : AluOp) (rd rs1 rs2 x y z : ℕ) → Stands e pc (Op o rd rs1 rs2 ∷ []) → pc + 4 < 2 ^ 32 → (rd == 0) ≡ false → t rs1 ≡ x → t rs2 ≡ y → alu_of o x y ≡ z → z < 2 ^ 32
      → Next e 1 r v (pc + 4) (put t rd z) b
  pub load : (width : ℕ) (signed : Bool) (rd rs1 a x : ℕ) (imm : ℤ) → Stands e pc (Load width signed rd rs1 imm ∷ []) → pc + 4 < 2 ^ 32 → IsWritten rd → plus (t rs1) imm ≡ a → a % width ≡ 0 → 1 ≤ width → MayRead e a width
      → widened width signed (number_at b a width) ≡ x → x < 2 ^ 32 → Next e 1 r v (pc + 4) (put t rd x) b
  pub store : (width rs1 rs2 a x : ℕ) (imm : ℤ) → Stands e pc (Store width rs1 rs2 imm ∷ []) → pc + 4 < 2 ^ 32 → plus (t rs1) imm ≡ a → a % width ≡ 0 → 1 ≤ width → MayWrite e a width → t rs2 ≡ x
      → Next e 1 r v (pc + 4) t (with_number b a width x)
  pub taken : (c : Cond) (rs1 rs2 x y to : ℕ) (offset : ℤ) → Stands e pc (Branch c rs1 rs2 offset ∷ []) → plus pc offset ≡ to → to % 4 ≡ 0 → t rs1 ≡ x → t rs2 ≡ y → taken_of c x y ≡ true → Next e 1 r v to t b
  pub passed : (c : Cond) (rs1 rs2 x y : ℕ) (offset : ℤ) → Stands e pc (Branch c rs1 rs2 offset ∷ []) → pc + 4 < 2 ^ 32 → t rs1 ≡ x → t rs2 ≡ y → taken_of c x y ≡ false → Next e 1 r v (pc + 4) t b
  pub jump : (to : ℕ) (offset : ℤ) → Stands e pc (Jal 0 offset ∷ []) → plus pc offset ≡ to → to % 4 ≡ 0 → Next e 1 r v to t b
  pub linked : (rd rs1 to : ℕ) (imm : ℤ) → Stands e pc (Jalr rd rs1 imm ∷ []) → pc + 4 < 2 ^ 32 → IsWritten rd → plus (t rs1) imm ≡ to → to % 4 ≡ 0 → Next e 1 r v to (put t rd (pc + 4)) b
  pub return : (rs1 to : ℕ) (imm : ℤ) → Stands e pc (Jalr 0 rs1 imm ∷ []) → pc + 4 < 2 ^ 32 → plus (t rs1) imm ≡ to → to % 4 ≡ 0 → Next e 1 r v to t b
  pub call : Stands e pc (Ecall ∷ []) → pc + 4 < 2 ^ 32 → Reaches e 1 r v (pc + 4) t b

-- Loads give the bytes that are shown, stores change them there alone, and each instruction leads on.
abbrev pub LoadsAreShown : Type 0
LoadsAreShown = (e : Place) (v : View) (a n : ℕ) (b : Bytes) → Sees e v b → MayRead e a n → 1 ≤ n → load_bytes v a n ≡ Ok (number_at b a n)

abbrev pub StoresAreShown : Type 0
StoresAreShown = (e : Place) (v : View) (a n x : ℕ) (b : Bytes) → IsPlace e → Sees e v b → MayWrite e a n → 1 ≤ n → Kept e v a n x b

abbrev pub InstructionsLead : Type 0
InstructionsLead = (e : Place) (r : Regs) (v : View) (pc : ℕ) (t : ℕ → ℕ) (b : Bytes) → IsPlace e → At e r v pc t b → Instructions e r v pc t b

-- Parts of code one after another.
abbrev pub LeadsOn : Type 0
LeadsOn = (e : Place) (m n : ℕ) (r : Regs) (v : View) (pc to : ℕ) (t u : ℕ → ℕ) (b d : Bytes) → (a : Next e m r v pc t b) → Next e n a.regs a.view to u d → Next e (m + n) r v to u d
