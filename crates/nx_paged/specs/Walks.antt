-- Whether a walk gives each byte of a buffer an address.
use Rattle.std.specs.Prelude.{ℕ, zero, suc, ◌+◌, Bool, true, ◌&&◌, List}
use Rattle.std.specs.Option.{is_some}
use Rattle.nx_base.specs.declared.access.Access.{Access}
use Rattle.nx_sv32.specs.Walk.{walk}

unfoldable pub all_walked : List ℕ → ℕ → Access → ℕ → ℕ → Bool
all_walked ram satp access at zero = true
all_walked ram satp access at (suc n) = is_some (walk ram satp at access) && all_walked ram satp access (at + 1) n
