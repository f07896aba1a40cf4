use Rattle.std.proofs.Common.{◌≡◌, ◌≢◌, ℕ, List, [], ◌∷◌, length, map, None, refl, arith}
use Rattle.std.proofs.lemmas.Bool.Decides.{nat_tests}
use Rattle.nx_top.specs.CommandLine.{run_form}
use Rattle.nx_top.proofs.command_line.run_words.Goals as goal
use Rattle.nx_top.proofs.command_line.run_words.Goals.{in_default-via-then-words-lt4, in_default-via-else-words-lt4+else-words-lt5}

no_form : {A : Type 0} (f : A → List ℕ) (ws : List A) → length ws ≢ 4 → None ≡ run_form (map f ws)
no_form f [] h = refl
no_form f (a ∷ []) h = refl
no_form f (a ∷ b ∷ []) h = refl
no_form f (a ∷ b ∷ c ∷ []) h = refl
no_form f (a ∷ b ∷ c ∷ d ∷ []) h = absurd (h refl)
no_form f (a ∷ b ∷ c ∷ d ∷ e ∷ ws) h = refl

pub returns-in_default : goal.returns-in_default
returns-in_default c = elim c.in_default.branch [
  | in_default-via-then-words-lt4 w ↦ no_form _ c.args.words.now (λ e. grind (arith, nat_tests))
  | in_default-via-else-words-lt4+else-words-lt5 w ↦ no_form _ c.args.words.now (λ e. grind (arith, nat_tests))
]
