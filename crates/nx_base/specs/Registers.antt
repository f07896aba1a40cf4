-- 32 registers, of which the first is always 0.
use Rattle.std.specs.Prelude.{ℕ, ◌==◌, if◌then◌else◌, slice_index, slice_set}
use Rattle.nx_base.specs.declared.regs.Regs.{Regs}

-- what a register holds
unfoldable pub reg : Regs → ℕ → ℕ
reg r k = if k == 0 then 0 else slice_index r.x k

-- the registers after a write to one
unfoldable pub with_reg : Regs → ℕ → ℕ → Regs
with_reg r k n = if k == 0 then r else record r { x = slice_set r.x k n }
