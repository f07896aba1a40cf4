-- A place in a text.
use Rattle.std.specs.Prelude.{ℕ, List}

-- the bytes that were taken, and those that are left
pub record CursorAt : Type 0 where
  pub taken : List ℕ
  pub rest : List ℕ
