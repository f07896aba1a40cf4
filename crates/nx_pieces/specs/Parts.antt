-- Straight code, and code that sets one register.
use Rattle.std.specs.Prelude.{◌≡◌, ◌≢◌, ℕ, ◌+◌, ◌*◌, ◌^◌, ◌<◌, List, length}
use Rattle.nx_base.specs.declared.regs.Regs.{Regs}
use Rattle.nx_base.specs.Views.{View}
use Rattle.nx_rv.specs.declared.inst.Inst.{Inst}
use Rattle.nx_shown.specs.Bytes.{Bytes}
use Rattle.nx_shown.specs.Places.{Place}
use Rattle.nx_shown.specs.Leading.{Next, Stands}

-- Instructions stand at an address, and below the end of all addresses.
abbrev pub IsCode : Place → ℕ → List Inst → Type 0
IsCode e pc code = Stands e pc code × (pc + 4 * length code < 2 ^ 32)

-- Instructions are made from the first to the last.
abbrev pub Ran : Place → List Inst → Regs → View → ℕ → (ℕ → ℕ) → Bytes → Type 0
Ran e code r v pc t b = Next e (length code) r v (pc + 4 * length code) t b

-- Code sets one register and leaves all else.
pub record Sets (e : Place) (code : List Inst) (r : Regs) (v : View) (pc rd x : ℕ) (t : ℕ → ℕ) (b : Bytes) : Type 0 where
  pub new : ℕ → ℕ
  pub next : Ran e code r v pc new b
  pub is : new rd ≡ x
  pub others : (j : ℕ) → j ≢ rd → new j ≡ t j
