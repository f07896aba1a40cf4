-- A count with a limit.
use Rattle.std.specs.Prelude.{ℕ}

-- how many there may be, and how many there were
pub record Counted : Type 0 where
  pub limit : ℕ
  pub used : ℕ
