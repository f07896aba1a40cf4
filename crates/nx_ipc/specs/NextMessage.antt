-- Which message of a queue comes next.
use Rattle.std.specs.Prelude.{ℕ, ◌≡◌, ◌<◌, ◌≤◌, List, Some, slice_get}
use Rattle.nx_ksys.specs.State.{Message}

-- of some messages, in the order of their sending, this is the oldest of the greatest priority
pub record IsOldestOfGreatest (messages : List Message) (m : Message) : Type 0 where
  pub place : ℕ
  pub stands : slice_get messages place ≡ Some m
  pub greatest : (i : ℕ) (other : Message) → slice_get messages i ≡ Some other → other.priority ≤ m.priority
  pub oldest : (i : ℕ) (other : Message) → i < place → slice_get messages i ≡ Some other → other.priority < m.priority
