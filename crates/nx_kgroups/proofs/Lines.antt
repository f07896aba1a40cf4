-- A line of three parts, and words with a sign.
use Rattle.std.proofs.Common.{◌≡◌, ◌≤◌, ◌<◌, ℕ, true, false, List, [], ◌∷◌, ◌++◌, ap, ◌∙◌, arith, append_assoc}
use Rattle.std.specs.Prelude.{nat_le}
use Rattle.std.proofs.lemmas.Bool.Decides.{nat_tests}

pub one_line : (a b c : List ℕ) → ((((a ++ 32 ∷ []) ++ b) ++ 32 ∷ []) ++ c) ≡ (a ++ 32 ∷ b) ++ 32 ∷ c
one_line a b c = append_assoc ((a ++ 32 ∷ []) ++ b) (32 ∷ []) c ∙ ap (λ x. x ++ 32 ∷ c) (append_assoc a (32 ∷ []) b)

-- a word of which the sign is set, or isn't
pub at_least : (m n : ℕ) → m ≤ n → nat_le m n ≡ true
at_least m n le = grind (arith, nat_tests)

pub below : (m n : ℕ) → n < m → nat_le m n ≡ false
below m n lt = grind (arith, nat_tests)
