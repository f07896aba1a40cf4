-- What the shell's code holds, with the room that was taken for it.
use Rattle.std.specs.Prelude.{ℕ, List}
use Rattle.nx_shrun.specs.declared.step.Step.{Step}

-- Words, and for how many there is room.
pub record HeldWords : Type 0 where
  pub words : List (List ℕ)
  pub room : ℕ

-- Steps, the next one first, and for how many there is room.
pub record HeldSteps : Type 0 where
  pub steps : List Step
  pub room : ℕ
