-- A proxy's instructions, and what they do.
use Rattle.std.specs.Prelude.{◌≡◌, ℕ, zero, suc, ◌+◌, ◌*◌, ◌<◌, ◌⊎◌, List, [], ◌∷◌, ◌++◌, Ok, pos}
use Rattle.nx_base.specs.declared.operations.AluOp.TheVariants.{Add}
use Rattle.nx_base.specs.declared.regs.Regs.{Regs}
use Rattle.nx_base.specs.Registers.{reg}
use Rattle.nx_base.specs.Views.{View, fetch_word}
use Rattle.nx_rv.specs.declared.inst.Inst.{Inst}
use Rattle.nx_rv.specs.declared.inst.Inst.TheVariants.{Jalr, OpImm, Ecall}
use Rattle.nx_rv.specs.Execution.{ReachesCall}

abbrev pub addi : ℕ → ℕ → ℕ → Inst
addi rd rs1 n = OpImm Add rd rs1 (pos n)

-- k arguments move up by one register, the last first
abbrev pub moves : ℕ → List Inst
moves zero = []
moves (suc k) = addi (11 + k) (10 + k) 0 ∷ moves k

-- the proxy of a call of this number with k parameters: it moves them, makes the call, and returns
unfoldable pub proxy_of : ℕ → ℕ → List Inst
proxy_of number k = moves k ++ addi 10 0 number ∷ Ecall ∷ Jalr 0 1 (pos 0) ∷ []

-- words stand in a view from an address on, and may be run
abbrev pub Stand : View → ℕ → List ℕ → Type 0
Stand v at [] = Unit {0}
Stand v at (w ∷ ws) = (fetch_word v at ≡ Ok w) × Stand v (at + 4) ws

-- from these registers a call of this number is made with the k arguments that a function was called with
pub record Calls (number k : ℕ) (r : Regs) (v : View) : Type 0 where
  pub regs : Regs
  pub reaches : ReachesCall (k + 2) r v regs v
  pub after : regs.pc ≡ r.pc + 4 * (k + 2)
  pub number_is : reg regs 10 ≡ number
  pub arguments : (i : ℕ) → i < k → reg regs (11 + i) ≡ reg r (10 + i)
  pub others : (j : ℕ) → (j < 10) ⊎ (10 + k < j) → reg regs j ≡ reg r j
