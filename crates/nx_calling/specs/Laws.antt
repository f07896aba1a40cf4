-- What the pieces of a compiled call do.
use Rattle.std.specs.Prelude.{◌≡◌, ◌≢◌, ℕ, ◌+◌, ◌*◌, ◌%◌, ◌^◌, ◌<◌, ◌≤◌, ◌⊎◌}
use Rattle.nx_base.specs.declared.regs.Regs.{Regs}
use Rattle.nx_base.specs.Views.{View}
use Rattle.nx_slot.specs.declared.program.SlotFunction.{SlotFunction}
use Rattle.nx_codegen.specs.Calling.{arguments_code, save_code, restore_code, call_code, proxy_code}
use Rattle.nx_shown.specs.Bytes.{Bytes, number_at}
use Rattle.nx_shown.specs.Places.{Place, IsPlace}
use Rattle.nx_shown.specs.Leading.{At, Next, Reaches}
use Rattle.nx_pieces.specs.Parts.{IsCode, Ran}
use Rattle.nx_pieces.specs.Cells.{cell_word, Open}

-- So many cells from one on stand in registers from 10 on.
pub record Handed (e : Place) (g : SlotFunction) (sp first k : ℕ) (r : Regs) (v : View) (pc : ℕ) (t : ℕ → ℕ) (b : Bytes) : Type 0 where
  pub new : ℕ → ℕ
  pub next : Ran e (arguments_code g first k) r v pc new b
  pub arguments : (j : ℕ) → j < k → new (10 + j) ≡ cell_word g sp t b (first + j)
  pub others : (j : ℕ) → (j < 10) ⊎ (10 + k ≤ j) → new j ≡ t j

abbrev pub ArgumentsCome : Type 0
ArgumentsCome = (e : Place) (g : SlotFunction) (sp first k : ℕ) (r : Regs) (v : View) (pc : ℕ) (t : ℕ → ℕ) (b : Bytes) → Open e g sp → k ≤ 6 → first + k ≤ g.locals + g.temporaries → t 2 ≡ sp → IsCode e pc (arguments_code g first k) → At e r v pc t b
    → Handed e g sp first k r v pc t b

-- A jump that keeps the address behind it in register 1.
pub record Called (e : Place) (r : Regs) (v : View) (pc to : ℕ) (t : ℕ → ℕ) (b : Bytes) : Type 0 where
  pub new : ℕ → ℕ
  pub next : Next e 2 r v to new b
  pub back : new 1 ≡ pc + 8
  pub others : (j : ℕ) → j ≢ 1 → new j ≡ t j

abbrev pub CallsLead : Type 0
CallsLead = (e : Place) (r : Regs) (v : View) (pc to : ℕ) (t : ℕ → ℕ) (b : Bytes) → IsPlace e → to < 2 ^ 32 → to % 4 ≡ 0 → IsCode e pc (call_code to) → At e r v pc t b → Called e r v pc to t b

-- A proxy reaches its call, with the number and the words where the kernel takes them.
pub record Proxied (e : Place) (r : Regs) (v : View) (pc number k : ℕ) (t : ℕ → ℕ) (b : Bytes) : Type 0 where
  pub new : ℕ → ℕ
  pub reaches : Reaches e (k + 2) r v (pc + 4 * (k + 2)) new b
  pub number_is : new 10 ≡ number
  pub words : (j : ℕ) → j < k → new (11 + j) ≡ t (10 + j)
  pub others : (j : ℕ) → (j < 10) ⊎ (10 + k < j) → new j ≡ t j

abbrev pub ProxiesCall : Type 0
ProxiesCall = (e : Place) (r : Regs) (v : View) (pc number k : ℕ) (t : ℕ → ℕ) (b : Bytes) → IsPlace e → number < 2048 → k ≤ 6 → IsCode e pc (proxy_code number k) → At e r v pc t b → Proxied e r v pc number k t b

-- The first temporaries are in their words, above the return address.
pub record Saved (e : Place) (sp k : ℕ) (r : Regs) (v : View) (pc : ℕ) (t : ℕ → ℕ) (b : Bytes) : Type 0 where
  pub bytes : Bytes
  pub next : Ran e (save_code k) r v pc t bytes
  pub words : (d : ℕ) → d < k → number_at bytes (sp + 4 * (1 + d)) 4 ≡ t (18 + d)
  pub rest : (c : ℕ) → (c < sp + 4) ⊎ (sp + 4 * (1 + k) ≤ c) → bytes c ≡ b c

abbrev pub TemporariesAreKept : Type 0
TemporariesAreKept = (e : Place) (g : SlotFunction) (sp k : ℕ) (r : Regs) (v : View) (pc : ℕ) (t : ℕ → ℕ) (b : Bytes) → Open e g sp → k ≤ 8 → k ≤ g.temporaries → t 2 ≡ sp → IsCode e pc (save_code k) → At e r v pc t b → Saved e sp k r v pc t b

-- They are in their registers again.
pub record Restored (e : Place) (sp k : ℕ) (r : Regs) (v : View) (pc : ℕ) (t : ℕ → ℕ) (b : Bytes) : Type 0 where
  pub new : ℕ → ℕ
  pub next : Ran e (restore_code k) r v pc new b
  pub words : (d : ℕ) → d < k → new (18 + d) ≡ number_at b (sp + 4 * (1 + d)) 4
  pub others : (j : ℕ) → (j < 18) ⊎ (18 + k ≤ j) → new j ≡ t j

abbrev pub TemporariesComeBack : Type 0
TemporariesComeBack = (e : Place) (g : SlotFunction) (sp k : ℕ) (r : Regs) (v : View) (pc : ℕ) (t : ℕ → ℕ) (b : Bytes) → Open e g sp → k ≤ 8 → k ≤ g.temporaries → t 2 ≡ sp → IsCode e pc (restore_code k) → At e r v pc t b → Restored e sp k r v pc t b
