-- How many steps there are, and how many descriptors they open.
use Rattle.std.proofs.Common.{◌≡◌, ℕ, ◌+◌, ◌≤◌, List, [], ◌∷◌, length, refl, arith, ap}
use Rattle.nx_shrun.specs.declared.step.Step.{Step}
use Rattle.nx_shrun.specs.declared.step.Step.TheVariants as step
use Rattle.nx_shrun.specs.Steps.{abandon, without_second}
use Rattle.nx_shstep.specs.Held.{weight, weights, openings}

pub weights_abandon : (fds : List ℕ) → weights (abandon fds) ≡ length fds
weights_abandon [] = refl
weights_abandon (fd ∷ fds) = omega (arith, weights_abandon fds)

pub openings_abandon : (fds : List ℕ) → openings (abandon fds) ≡ 0
openings_abandon [] = refl
openings_abandon (fd ∷ fds) = omega (arith, openings_abandon fds)

pub without_second_le : (fds : List ℕ) → length (without_second fds) ≤ length fds
without_second_le [] = omega arith
without_second_le (fd ∷ []) = omega arith
without_second_le (fd ∷ other ∷ fds) = omega arith

pub length_weights : (k : List Step) → length k ≤ weights k
length_weights [] = omega arith
length_weights (s ∷ k) = let h : length k ≤ weights k = length_weights k in let p : 1 ≤ weight s = weight_least s in omega (arith, h, p)
  where
    weight_least : (s : Step) → 1 ≤ weight s
    weight_least step.Look = omega arith
    weight_least _ = omega arith

-- One descriptor more is closed.
pub abandon_more : (k : List Step) (n : ℕ) → ((gs : List ℕ) → length gs ≡ n → k ≡ abandon gs) → (fds : List ℕ) → length fds ≡ n + 1 → step.Abandon ∷ k ≡ abandon fds
abandon_more k n h [] e = absurd (omega (arith, e))
abandon_more k n h (fd ∷ fds) e = ap (λ j. step.Abandon ∷ j) (h fds (omega (arith, e)))
