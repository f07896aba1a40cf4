-- What a table with room for so many has.
use Rattle.std.specs.Prelude.{ℕ, List}
use Rattle.nx_ksys.specs.State.{Code, ThreadValue}

-- codes in the order in which the children ended, and how many there may be
pub record KeptCodes : Type 0 where
  pub codes : List Code
  pub room : ℕ

-- values in the order in which the threads ended, and how many there may be
pub record KeptValues : Type 0 where
  pub values : List ThreadValue
  pub room : ℕ
