-- What parts of the kernel keep.
use Rattle.std.specs.Prelude.{ℕ, List}
use Rattle.nx_ksys.specs.State.{Ending}
use Rattle.nx_kernel.specs.declared.ends.Ended.{Ended}

-- the time, and the lateness list that is left
pub record Clocked : Type 0 where
  pub time : ℕ
  pub late : List ℕ

-- what the console showed, how much it may show, and the input that is left
pub record OnTerminal : Type 0 where
  pub shown : List ℕ
  pub room : ℕ
  pub input : List ℕ

abbrev pub ending_of : Ended → Ending
ending_of e = record { pid = e.pid; name = e.name; code = e.code }

-- ends in their order, and how many there may be
pub record KeptEnds : Type 0 where
  pub ends : List Ending
  pub room : ℕ
