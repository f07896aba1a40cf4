-- Registers after a write to one.
use Rattle.std.proofs.Common.{◌≡◌, ◌≢◌, ℕ, ◌<◌, false, length, refl, ap}
use Rattle.std.specs.Prelude.{◌==◌, if◌then◌else◌}
use Rattle.std.proofs.lemmas.List.{length-set, get_or-set_same, get_or-set_other}
use Rattle.nx_base.specs.declared.regs.Regs.{Regs}
use Rattle.nx_base.specs.Registers.{reg, with_reg}

pub reg-zero : (r : Regs) → reg r 0 ≡ 0
unfolding reg
reg-zero r = refl

pub reg-with_same : (r : Regs) (k n : ℕ) → (k == 0) ≡ false → k < length r.x → reg (with_reg r k n) k ≡ n
unfolding reg with_reg
reg-with_same r k n z h = rw z (get_or-set_same r.x k n 0 h)

pub reg-with_other : (r : Regs) (k n j : ℕ) → (k == 0) ≡ false → j ≢ k → reg (with_reg r k n) j ≡ reg r j
unfolding reg with_reg
reg-with_other r k n j z h = rw z (ap (λ m. if j == 0 then 0 else m) (get_or-set_other r.x k j n 0 h))

pub length-with_reg : (r : Regs) (k n : ℕ) → (k == 0) ≡ false → length (with_reg r k n).x ≡ length r.x
unfolding with_reg
length-with_reg r k n z = rw z (length-set r.x k n)

pub pc-with_reg : (r : Regs) (k n : ℕ) → (k == 0) ≡ false → (with_reg r k n).pc ≡ r.pc
unfolding with_reg
pc-with_reg r k n z = rw z

-- a write to register 0 changes nothing
pub with_reg-zero : (r : Regs) (n : ℕ) → with_reg r 0 n ≡ r
unfolding with_reg
with_reg-zero r n = refl
